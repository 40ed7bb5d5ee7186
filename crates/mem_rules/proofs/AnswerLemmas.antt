-- What is answered where an identifier is asked about, and which records are listed.
use Rattle.std.proofs.Common.{◌≡◌, ℕ, true, false, cond, List, Result, Ok, Err, take, length, min, Option, Some, None, is_some, refl, sym, ap, ◌∙◌, arith, inl, inr}
use Rattle.std.proofs.Common.{Bor}
use Rattle.std.specs.Result.{IsOk, is_ok}
use Rattle.std.specs.Option.{option_copied}
use Rattle.std.proofs.lemmas.Bool.{cases_lt}
use Rattle.std.proofs.lemmas.List.{take_all}
use Rattle.mini_tx.specs.declared.message.Message.TheVariants as message
use Rattle.mini_tx.specs.declared.tx_id.TxId.{TxId}
use Rattle.mem_rules.specs.declared.kept.Kept.{Kept}
use Rattle.mem_rules.specs.declared.standing.Standing.{Standing}
use Rattle.mem_rules.specs.declared.standing.Standing.TheVariants.{Above, At, Below}
use Rattle.mem_rules.specs.Rules.{Node, standing, is_above, forces, by_floor_asked, on_ask}

pub asked_above : (n : Node) (id : TxId) (k : Option Kept) → is_some k ≡ false → is_above (standing n.state id) ≡ true
    → forces n id (standing n.state id) (message.Answer id false) ≡ on_ask n id k
asked_above n id (Some k) none above = absurd cc
asked_above n id None none above = go (standing n.state id) above
  where
    go : (x : Standing) → is_above x ≡ true → forces n id x (message.Answer id false) ≡ by_floor_asked n id x
    go Above e = refl
    go (At v) e = absurd cc
    go (Below floor) e = absurd cc

pub least_taken : (kept : List Kept) (limit : ℕ) → take (min (length kept) limit) kept ≡ take limit kept
least_taken kept limit = elim (cases_lt limit (length kept)) [
  | inl more ↦ ap (λ n. take n kept) (let e : min (length kept) limit ≡ limit = omega (arith, more) in e)
  | inr few ↦
      ap (λ n. take n kept) (let e : min (length kept) limit ≡ length kept = omega (arith, few) in e)
      ∙ take_all (length kept) kept (omega arith) ∙ sym (take_all limit kept few)
]

pub when_ok : {X E Y : Type 0} (result : Result X E) → IsOk result → (a b : Y) → cond (is_ok result) a b ≡ a
when_ok (Ok x) ok a b = refl
when_ok (Err e) ok a b = absurd cc

pub some_copied : (k : Option (Bor Kept)) → is_some k ≡ false → is_some (option_copied k) ≡ false
some_copied None none = refl
some_copied (Some k) none = absurd cc
