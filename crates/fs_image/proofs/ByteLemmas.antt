-- Bytes at places of lists that stand one behind the other.
use Rattle.std.proofs.Common.{◌≡◌, ◌≤◌, ℕ, ◌+◌, ◌-◌, List, ap, ◌∙◌, arith}
use Rattle.std.specs.Prelude.{◌++◌, length, take, drop}
use Rattle.std.proofs.Math.Seq.{drop-append-add, take-length}
use Rattle.std.proofs.lemmas.List.{take-append-le, drop-append-le, take-replicate, drop-replicate, length-drop}
use Rattle.mini_tx.specs.FlatMemory.{bytes_at}
use Rattle.mini_tx.specs.FreshImages.{zeros}

pub bytes_past : (xs ys : List ℕ) (at rest len : ℕ) → at ≡ length xs + rest → bytes_at (xs ++ ys) at len ≡ bytes_at ys rest len
bytes_past xs ys at rest len is = ap (take len) (ap (λ n. drop n (xs ++ ys)) is ∙ drop-append-add xs ys rest)

pub bytes_within : (xs ys : List ℕ) (at len : ℕ) → at + len ≤ length xs → bytes_at (xs ++ ys) at len ≡ bytes_at xs at len
bytes_within xs ys at len within =
    ap (take len) (drop-append-le at xs ys (omega (arith, within))) ∙ take-append-le len (drop at xs) ys (omega (arith, within, length-drop at xs))

pub bytes_zeros : (n at len : ℕ) → at + len ≤ n → bytes_at (zeros n) at len ≡ zeros len
bytes_zeros n at len within = ap (take len) (drop-replicate at n 0) ∙ take-replicate len (n - at) 0 (omega (arith, within))

pub bytes_whole : (xs : List ℕ) (len : ℕ) → len ≡ length xs → bytes_at xs 0 len ≡ xs
bytes_whole xs len is = ap (λ n. take n xs) is ∙ take-length xs
