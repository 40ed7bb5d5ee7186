-- What is asked is fit.
use Rattle.std.proofs.Common.{◌≡◌, ◌≤◌, ◌<◌, ◌+◌, ℕ, Bool, List, [], ◌∷◌, Option, Some, None, true, false, refl, sym, ap, subst, arith, if◌then◌else◌, nat_lt}
use Rattle.std.proofs.lemmas.Bool.{le-ltb}
use Rattle.std.proofs.lemmas.List.Elements.{All-cons, All-nil}
use Rattle.mini_tx.specs.declared.item.Item.{Item}
use Rattle.mini_tx.specs.declared.item.Item.TheVariants.{Write}
use Rattle.mini_tx.specs.declared.mini_fault.MiniFault.{MiniFault}
use Rattle.mini_tx.specs.declared.placed_item.PlacedItem.{PlacedItem}
use Rattle.mini_tx.specs.declared.tx_id.TxId.{TxId}
use Rattle.mini_tx.specs.Minitransactions.{memory_of, place_refusal, refusal}
use Rattle.mem_rules.specs.declared.setup.Setup.{Setup}
use Rattle.mem_rules.specs.Fit.{IsFitPrepare}
use Rattle.sfs_bench.specs.Fixture.{lone, pair, AreFitItems, AreFitForBoth}

pub asked_is_fit : (setup : Setup) (id : TxId) (participants : List ℕ) (items : List PlacedItem) → setup ≡ lone → id.coord ≡ 0 → participants ≡ 0 ∷ [] → AreFitItems items
    → IsFitPrepare setup id participants items
asked_is_fit setup id participants items own first alone fit =
    subst (λ (s : Setup). IsFitPrepare s id participants items) (sym own) (subst (λ (ps : List ℕ). IsFitPrepare lone id ps items) (sym alone) (fit id first))

-- a byte that is written inside the image
byte_is_valid : (at b : ℕ) → at < 16384 → refusal (Write 0 at (b ∷ []) ∷ []) 2 16384 ≡ None
byte_is_valid at b below =
    let inside : nat_lt 16384 (at + 1) ≡ false = le-ltb 16384 (at + 1) (omega arith) in
    ap (λ (x : Bool). place_refusal (if x then Some 0 else None) (Write 0 at (b ∷ []) ∷ [])) inside

pub byte_is_fit : (at b : ℕ) → at < 16384 → AreFitForBoth (record { place = 0; item = Write 0 at (b ∷ []) } ∷ [])
byte_is_fit at b below id coordinator =
    let own = λ (p : PlacedItem). memory_of p.item ≡ 0 in
    record {
      coordinator = coordinator;
      ascend = (omega arith, (refl, (omega arith, (refl, tt))));
      among = (0, omega arith, refl);
      own = All-cons own (record { place = 0; item = Write 0 at (b ∷ []) }) [] refl (All-nil own);
      valid = byte_is_valid at b below;
      places = (omega arith, (refl, tt));
    }

pub asked_of_both_is_fit : (id : TxId) (participants : List ℕ) (items : List PlacedItem) → id.coord < 2 → participants ≡ 0 ∷ 1 ∷ [] → AreFitForBoth items
    → IsFitPrepare pair id participants items
asked_of_both_is_fit id participants items known both fit = subst (λ (ps : List ℕ). IsFitPrepare pair id ps items) (sym both) (fit id known)
