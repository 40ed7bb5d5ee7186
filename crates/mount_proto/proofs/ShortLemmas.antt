-- A result is a few numbers.
use Rattle.std.proofs.Common.{◌≡◌, ℕ, zero, suc, ◌≤◌, Bool, true, false, cond, List, [], ◌∷◌, length, Result, Ok, Err, sym, arith}
use Rattle.std.specs.Prelude.{bytes_eq}
use Rattle.sfs_xdr.specs.Items.{words}
use Rattle.sfs_xdr.specs.Codec.{text_item}
use Rattle.fs_layout.specs.Handles.{handle_words}
use Rattle.mount_proto.specs.Mount.{root_handle, exported, mounted, with_path, answer_of}

-- these numbers, at most nine
pub record AreFew (bytes : List ℕ) : Type 0 where
  pub numbers : List ℕ
  pub few : length numbers ≤ 9
  pub spelled : bytes ≡ words numbers

few : (numbers bytes : List ℕ) → length numbers ≤ 9 → words numbers ≡ bytes → AreFew bytes
few numbers bytes most is = record { numbers = numbers; few = most; spelled = sym is }

few_mounted : (b : Bool) (bytes : List ℕ) → cond b (words (0 ∷ root_handle)) (words (2 ∷ [])) ≡ bytes → AreFew bytes
unfolding handle_words
few_mounted true bytes is = few (0 ∷ root_handle) bytes (omega arith) is
few_mounted false bytes is = few (2 ∷ []) bytes (omega arith) is

few_path : (answer : List ℕ → List ℕ) (r : Result (List ℕ × List ℕ) (Unit {0})) (bytes : List ℕ) → ((path : List ℕ) → answer path ≡ bytes → AreFew bytes)
    → with_path answer r ≡ Ok bytes → AreFew bytes
few_path answer (Ok path) bytes each is = each path.0 cc
few_path answer (Err e) bytes each is = absurd cc

pub answer_short : (procedure : ℕ) (args bytes : List ℕ) → answer_of procedure args ≡ Ok bytes → AreFew bytes
unfolding answer_of
answer_short zero args bytes is = few [] bytes (omega arith) cc
answer_short (suc zero) args bytes is = few_path mounted (text_item 1024 args) bytes (λ path same. few_mounted (bytes_eq path exported) bytes same) is
answer_short (suc (suc zero)) args bytes is = few (0 ∷ []) bytes (omega arith) cc
answer_short (suc (suc (suc zero))) args bytes is = few_path (λ path. []) (text_item 1024 args) bytes (λ path same. few [] bytes (omega arith) same) is
answer_short (suc (suc (suc (suc zero)))) args bytes is = few [] bytes (omega arith) cc
answer_short (suc (suc (suc (suc (suc zero))))) args bytes is = few (1 ∷ 1 ∷ 0x2f000000 ∷ 0 ∷ 0 ∷ []) bytes (omega arith) cc
answer_short (suc (suc (suc (suc (suc (suc k)))))) args bytes is = absurd cc
