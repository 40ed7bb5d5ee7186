-- A cluster that is opened from states shows in the machine.
use Rattle.std.proofs.Common.{◌≡◌, ℕ, zero, suc, ◌+◌, ◌<◌, Bool, cond, List, [], ◌∷◌, ◌++◌, map, get_or, Option, Some, refl, sym, ap, subst, ◌∙◌, arith, append-nil}
use Rattle.std.specs.List.{slice_get}
use Rattle.std.proofs.lemmas.Bool.{eq-eqb, ne_eqb}
use Rattle.mem_rules.specs.State.{State}
use Rattle.tx_rules.specs.Decision.{Record, At}
use Rattle.tx_rules.specs.World.{opened}
use Rattle.tx_actors.specs.Node.{own, View, view}
use Rattle.tx_actors.proofs.LawLemmas.{own_append}
use Rattle.mem_laws.specs.Loaded.{records_of_state, log_from, bytes_in, image_from, LoadedClustersShow}
use Rattle.mem_laws.specs.Shown.{Shows}
use Rattle.mem_laws.proofs.LoadLemmas.{loaded_nodes_show}

own_here : (m : ℕ) (rs : List Record) → own m (map (At m) rs) ≡ rs
own_here m [] = refl
own_here m (r ∷ rs) = ap (λ (b : Bool). cond b (r ∷ own m (map (At m) rs)) (own m (map (At m) rs))) (eq-eqb m m refl) ∙ ap (λ (x : List Record). r ∷ x) (own_here m rs)

own_there : (m n : ℕ) (rs : List Record) → ¬ (n ≡ m) → own m (map (At n) rs) ≡ []
own_there m n [] other = refl
own_there m n (r ∷ rs) other = ap (λ (b : Bool). cond b (r ∷ own m (map (At n) rs)) (own m (map (At n) rs))) (ne_eqb n m other) ∙ own_there m n rs other

-- a memory node before the first has no records
none_before : (m k : ℕ) (states : List State) → m < k → own m (log_from k states) ≡ []
none_before m k [] less = refl
none_before m k (state ∷ states) less =
    own_append m (map (At k) (records_of_state state)) (log_from (k + 1) states)
    ∙ ap (λ (x : List Record). x ++ own m (log_from (k + 1) states)) (own_there m k (records_of_state state) (λ e. omega (arith, e, less)))
    ∙ none_before m (k + 1) states (omega (arith, less))

own_is : (k i m : ℕ) (states : List State) (state : State) → m ≡ k + i → slice_get states i ≡ Some state → own m (log_from k states) ≡ records_of_state state
own_is k i m [] state at there = absurd (none_there i there)
  where
    none_there : (i : ℕ) → slice_get [] i ≡ Some state → ⊥
    none_there i e = cc
own_is k zero m (x ∷ states) state at there =
    let same : m ≡ k = omega (arith, at) in
    let one : x ≡ state = some_state x state there in
    own_append m (map (At k) (records_of_state x)) (log_from (k + 1) states)
    ∙ ap (λ (r : List Record). r ++ own m (log_from (k + 1) states)) (ap (λ (n : ℕ). own m (map (At n) (records_of_state x))) (sym same) ∙ own_here m (records_of_state x))
    ∙ ap (λ (r : List Record). records_of_state x ++ r) (none_before m (k + 1) states (omega (arith, same)))
    ∙ append-nil (records_of_state x) ∙ ap records_of_state one
  where
    some_state : (a b : State) → Some a ≡ Some b → a ≡ b
    some_state a b e = cc
own_is k (suc i) m (x ∷ states) state at there =
    own_append m (map (At k) (records_of_state x)) (log_from (k + 1) states)
    ∙ ap (λ (r : List Record). r ++ own m (log_from (k + 1) states)) (own_there m k (records_of_state x) (λ e. omega (arith, e, at)))
    ∙ own_is (k + 1) i m states state (omega (arith, at)) there

pub loaded_clusters_show : LoadedClustersShow
loaded_clusters_show s states m state there loaded =
    subst (λ (v : View). Shows s m state v) same (loaded_nodes_show s m state (λ t. image_from states m) loaded)
  where
    same : record { records = records_of_state state; image = λ (a : ℕ). get_or state.image a 0; seen = λ (t : ℕ). image_from states m } ≡ view (opened s (log_from 0 states) (image_from states)) m
    same =
        ap (λ (rs : List Record). let v : View = record { records = rs; image = λ (a : ℕ). get_or state.image a 0; seen = λ (t : ℕ). image_from states m } in v) (sym (own_is 0 m m states state (omega arith) there))
        ∙ ap (λ (o : Option State). let v : View = record { records = own m (log_from 0 states); image = bytes_in o; seen = λ (t : ℕ). image_from states m } in v) (sym there)
