-- Where the entry of an identifier stands, and what is found after a change there.
use Rattle.std.proofs.Common.{◌≡◌, ◌<◌, ◌≤◌, ℕ, zero, suc, ◌==◌, Bool, true, false, cond, List, [], ◌∷◌, length, set, get_or, Option, Some, None, refl, sym, ap, subst, ◌∙◌, arith}
use Rattle.std.specs.List.{AllByRecursion, insert, remove, slice_get}
use Rattle.std.specs.List.Sorted.{IsPartitionedBy}
use Rattle.std.proofs.lemmas.List.Elements.{All-from_recursion}
use Rattle.mini_tx.specs.declared.tx_id.TxId.{TxId}
use Rattle.mini_tx.specs.Order.{precedes, is_same}
use Rattle.lock_table.proofs.OrderLemmas.{trans, is_one, same_self, not_same, not_same_back, or_after}
use Rattle.grant_ledger.specs.declared.doubt.Doubt.{Doubt}
use Rattle.grant_ledger.specs.Doubts.{AreAscending, waits_of, without, after_grant, is_last, IsPlaceOf, IsAt}

abbrev pub Follows : TxId → Doubt → Type 0
Follows id d = precedes id d.id ≡ true

pub parted : (doubts : List Doubt) (id : TxId) → AreAscending doubts → IsPartitionedBy (λ (d : Doubt). precedes d.id id) doubts
parted [] id ascending i j d low below h = absurd (omega (arith, below))
parted (k ∷ doubts) id ascending zero zero d low below h = h
parted (k ∷ doubts) id ascending zero (suc j) d low below h =
    let later = All-from_recursion (Follows k.id) doubts ascending.0 j d (omega (arith, below)) in
    trans k.id (get_or doubts j d).id id later h
parted (k ∷ doubts) id ascending (suc i) zero d low below h = absurd (omega (arith, low))
parted (k ∷ doubts) id ascending (suc i) (suc j) d low below h = parted doubts id ascending.1 i j d (omega (arith, low)) (omega (arith, below)) h

tail : (d : Doubt) (doubts : List Doubt) (id : TxId) (at : ℕ) → IsPlaceOf (d ∷ doubts) id (suc at) → IsPlaceOf doubts id at
tail k doubts id at place = (
  λ j d low below. place.0 (suc j) d (omega arith) (omega (arith, below)),
  λ j d low below. place.1 (suc j) d (omega (arith, low)) (omega (arith, below)),
)

front : (d : Doubt) (doubts : List Doubt) (id : TxId) (at : ℕ) → IsPlaceOf (d ∷ doubts) id (suc at) → precedes d.id id ≡ true
front d doubts id at place = place.0 0 d (omega arith) (omega arith)

behind : (d : Doubt) (doubts : List Doubt) (id : TxId) → IsPlaceOf (d ∷ doubts) id 0 → precedes d.id id ≡ false
behind d doubts id place = place.1 0 d (omega arith) (omega arith)

-- ---- an entry is found

none_behind : (id : TxId) (before : TxId) (doubts : List Doubt) → precedes id before ≡ true → AllByRecursion (Follows before) doubts → waits_of doubts id ≡ None
none_behind id b [] is later = refl
none_behind id b (o ∷ doubts) is later =
    ap (λ t. cond t (Some o.waits.items) (waits_of doubts id)) (not_same_back id o.id (trans id b o.id is later.0)) ∙ none_behind id b doubts is later.1

-- none has it behind its own
none_after : (id : TxId) (doubts : List Doubt) → AllByRecursion (Follows id) doubts → waits_of doubts id ≡ None
none_after id [] later = refl
none_after id (o ∷ doubts) later =
    ap (λ t. cond t (Some o.waits.items) (waits_of doubts id)) (not_same_back id o.id later.0) ∙ none_after id doubts later.1

-- what stands at the place, where it is the identifier's
abbrev pub waits_at : Option Doubt → TxId → Option (List ℕ)
waits_at None id = None
waits_at (Some d) id = cond (is_same d.id id) (Some d.waits.items) None

pub found_is : (id : TxId) (doubts : List Doubt) (at : ℕ) → AreAscending doubts → IsPlaceOf doubts id at → waits_of doubts id ≡ waits_at (slice_get doubts at) id
found_is id [] zero ascending place = refl
found_is id [] (suc at) ascending place = refl
found_is id (d ∷ doubts) zero ascending place = go (is_same d.id id) refl
  where
    go : (b : Bool) → is_same d.id id ≡ b → cond b (Some d.waits.items) (waits_of doubts id) ≡ cond b (Some d.waits.items) None
    go true is = refl
    go false is = none_behind id d.id doubts (or_after d.id id (behind d doubts id place) is) ascending.0
found_is id (d ∷ doubts) (suc at) ascending place =
    ap (λ b. cond b (Some d.waits.items) (waits_of doubts id)) (not_same d.id id (front d doubts id at place)) ∙ found_is id doubts at ascending.1 (tail d doubts id at place)

got : (doubts : List Doubt) (at : ℕ) (d : Doubt) → at < length doubts → slice_get doubts at ≡ Some (get_or doubts at d)
got [] at d below = absurd (omega (arith, below))
got (k ∷ doubts) zero d below = refl
got (k ∷ doubts) (suc at) d below = got doubts at d (omega (arith, below))

past : (doubts : List Doubt) (at : ℕ) → length doubts ≤ at → slice_get doubts at ≡ None
past [] zero low = refl
past [] (suc at) low = refl
past (k ∷ doubts) zero low = absurd (omega (arith, low))
past (k ∷ doubts) (suc at) low = past doubts at (omega (arith, low))

pub none_past : (id : TxId) (doubts : List Doubt) (at : ℕ) → AreAscending doubts → IsPlaceOf doubts id at → length doubts ≤ at → waits_of doubts id ≡ None
none_past id doubts at ascending place low = found_is id doubts at ascending place ∙ ap (λ (o : Option Doubt). waits_at o id) (past doubts at low)

pub there_is : (id : TxId) (doubts : List Doubt) (at : ℕ) (d : Doubt) → AreAscending doubts → IsPlaceOf doubts id at → at < length doubts → d ≡ get_or doubts at d
    → is_same d.id id ≡ true → IsAt doubts id at
there_is id doubts at d ascending place below is same =
    let there : slice_get doubts at ≡ Some d = got doubts at d below ∙ ap (λ (x : Doubt). Some x) (sym is) in
    record {
      doubt = d;
      there = there;
      below = below;
      same = is_one d.id id same;
      waits = found_is id doubts at ascending place ∙ ap (λ (o : Option Doubt). waits_at o id) there ∙ ap (λ (b : Bool). cond b (Some d.waits.items) None) same;
    }

pub not_there : (id : TxId) (doubts : List Doubt) (at : ℕ) (d : Doubt) → AreAscending doubts → IsPlaceOf doubts id at → at < length doubts → d ≡ get_or doubts at d
    → is_same d.id id ≡ false → waits_of doubts id ≡ None
not_there id doubts at d ascending place below is other =
    found_is id doubts at ascending place
    ∙ ap (λ (o : Option Doubt). waits_at o id) (got doubts at d below ∙ ap (λ (x : Doubt). Some x) (sym is))
    ∙ ap (λ (b : Bool). cond b (Some d.waits.items) None) other

-- ---- all of them after a change

all_set : (P : Doubt → Type 0) (doubts : List Doubt) (at : ℕ) (d : Doubt) → AllByRecursion P doubts → P d → AllByRecursion P (set doubts at d)
all_set P [] at d all own = tt
all_set P (o ∷ doubts) zero d all own = (own, all.1)
all_set P (o ∷ doubts) (suc at) d all own = (all.0, all_set P doubts at d all.1 own)

all_removed : (P : Doubt → Type 0) (doubts : List Doubt) (at : ℕ) → AllByRecursion P doubts → AllByRecursion P (remove doubts at)
all_removed P [] zero all = tt
all_removed P [] (suc at) all = tt
all_removed P (o ∷ doubts) zero all = all.1
all_removed P (o ∷ doubts) (suc at) all = (all.0, all_removed P doubts at all.1)

all_inserted : (P : Doubt → Type 0) (doubts : List Doubt) (at : ℕ) (d : Doubt) → AllByRecursion P doubts → P d → AllByRecursion P (insert doubts at d)
all_inserted P [] zero d all own = (own, tt)
all_inserted P [] (suc at) d all own = (own, tt)
all_inserted P (o ∷ doubts) zero d all own = (own, all)
all_inserted P (o ∷ doubts) (suc at) d all own = (all.0, all_inserted P doubts at d all.1 own)

all_there : (P : Doubt → Type 0) (doubts : List Doubt) (at : ℕ) (d : Doubt) → AllByRecursion P doubts → slice_get doubts at ≡ Some d → P d
all_there P [] zero d all there = absurd cc
all_there P [] (suc at) d all there = absurd cc
all_there P (o ∷ doubts) zero d all there = let e : o ≡ d = cc in subst P e all.0
all_there P (o ∷ doubts) (suc at) d all there = all_there P doubts at d all.1 there

each_follows : (a b : TxId) (doubts : List Doubt) → precedes a b ≡ true → AllByRecursion (Follows b) doubts → AllByRecursion (Follows a) doubts
each_follows a b [] before all = tt
each_follows a b (o ∷ doubts) before all = (trans a b o.id before all.0, each_follows a b doubts before all.1)

-- ---- the order after a change

pub ascending_set : (doubts : List Doubt) (at : ℕ) (d now : Doubt) → AreAscending doubts → slice_get doubts at ≡ Some d → now.id ≡ d.id → AreAscending (set doubts at now)
ascending_set [] zero d now ascending there same = tt
ascending_set [] (suc at) d now ascending there same = tt
ascending_set (o ∷ doubts) zero d now ascending there same =
    let e : o ≡ d = cc in
    (subst (λ (x : TxId). AllByRecursion (Follows x) doubts) (ap (λ (x : Doubt). x.id) e ∙ sym same) ascending.0, ascending.1)
ascending_set (o ∷ doubts) (suc at) d now ascending there same = (
  all_set (Follows o.id) doubts at now ascending.0
      (subst (λ (x : TxId). precedes o.id x ≡ true) (sym same) (all_there (Follows o.id) doubts at d ascending.0 there)),
  ascending_set doubts at d now ascending.1 there same,
)

pub ascending_removed : (doubts : List Doubt) (at : ℕ) → AreAscending doubts → AreAscending (remove doubts at)
ascending_removed [] zero ascending = tt
ascending_removed [] (suc at) ascending = tt
ascending_removed (o ∷ doubts) zero ascending = ascending.1
ascending_removed (o ∷ doubts) (suc at) ascending = (all_removed (Follows o.id) doubts at ascending.0, ascending_removed doubts at ascending.1)

none_parts : (b : Bool) (o : List ℕ) (rest : Option (List ℕ)) → cond b (Some o) rest ≡ None → (b ≡ false) × (rest ≡ None)
none_parts true o rest is = absurd cc
none_parts false o rest is = (refl, is)

pub ascending_inserted : (doubts : List Doubt) (at : ℕ) (d : Doubt) → AreAscending doubts → at ≤ length doubts → IsPlaceOf doubts d.id at → waits_of doubts d.id ≡ None
    → AreAscending (insert doubts at d)
ascending_inserted [] zero d ascending bound place unknown = (tt, tt)
ascending_inserted [] (suc at) d ascending bound place unknown = (tt, tt)
ascending_inserted (o ∷ doubts) zero d ascending bound place unknown =
    let other = (none_parts (is_same o.id d.id) o.waits.items (waits_of doubts d.id) unknown).0 in
    let before : precedes d.id o.id ≡ true = or_after o.id d.id (behind o doubts d.id place) other in
    ((before, each_follows d.id o.id doubts before ascending.0), ascending)
ascending_inserted (o ∷ doubts) (suc at) d ascending bound place unknown = (
  all_inserted (Follows o.id) doubts at d ascending.0 (front o doubts d.id at place),
  ascending_inserted doubts at d ascending.1 (omega (arith, bound)) (tail o doubts d.id at place)
      (none_parts (is_same o.id d.id) o.waits.items (waits_of doubts d.id) unknown).1,
)

-- ---- what is found after a change

-- two tests of which not both are true may be asked in either order
swapped : {A : Type 0} (a b : Bool) (x y z : A) → (a ≡ true → b ≡ true → ⊥) → cond b y (cond a x z) ≡ cond a x (cond b y z)
swapped true true x y z apart = absurd (apart refl refl)
swapped true false x y z apart = refl
swapped false true x y z apart = refl
swapped false false x y z apart = refl

-- an identifier is not the same as both of two, one of which comes before the other
apart_of : (a b other : TxId) → precedes a b ≡ true → is_same b other ≡ true → is_same a other ≡ true → ⊥
apart_of a b other before same alike =
    let e : is_same a b ≡ true = subst (λ (x : TxId). is_same a x ≡ true) (is_one a other alike ∙ sym (is_one b other same)) (same_self a) in
    let f : is_same a b ≡ false = not_same a b before in absurd cc

over : {A : Type 0} (b : Bool) (x y z : A) → cond b x z ≡ cond b x (cond b y z)
over true x y z = refl
over false x y z = refl

pub waits_set : (doubts : List Doubt) (at : ℕ) (d now : Doubt) (id other : TxId) → AreAscending doubts → slice_get doubts at ≡ Some d → d.id ≡ id → now.id ≡ id
    → waits_of (set doubts at now) other ≡ cond (is_same id other) (Some now.waits.items) (waits_of doubts other)
waits_set [] zero d now id other ascending there same own = absurd cc
waits_set [] (suc at) d now id other ascending there same own = absurd cc
waits_set (o ∷ doubts) zero d now id other ascending there same own =
    let e : o ≡ d = cc in
    let first : o.id ≡ id = ap (λ (x : Doubt). x.id) e ∙ same in
    ap (λ (x : TxId). cond (is_same x other) (Some now.waits.items) (waits_of doubts other)) own
    ∙ over (is_same id other) (Some now.waits.items) (Some o.waits.items) (waits_of doubts other)
    ∙ ap (λ (x : TxId). cond (is_same id other) (Some now.waits.items) (cond (is_same x other) (Some o.waits.items) (waits_of doubts other))) (sym first)
waits_set (o ∷ doubts) (suc at) d now id other ascending there same own =
    ap (λ (w : Option (List ℕ)). cond (is_same o.id other) (Some o.waits.items) w) (waits_set doubts at d now id other ascending.1 there same own)
    ∙ swapped (is_same id other) (is_same o.id other) (Some now.waits.items) (Some o.waits.items) (waits_of doubts other)
    (apart_of o.id id other (subst (λ (x : TxId). precedes o.id x ≡ true) same (all_there (Follows o.id) doubts at d ascending.0 there)))

pub waits_removed : (doubts : List Doubt) (at : ℕ) (d : Doubt) (id other : TxId) → AreAscending doubts → slice_get doubts at ≡ Some d → d.id ≡ id
    → waits_of (remove doubts at) other ≡ cond (is_same id other) None (waits_of doubts other)
waits_removed [] zero d id other ascending there same = absurd cc
waits_removed [] (suc at) d id other ascending there same = absurd cc
waits_removed (o ∷ doubts) zero d id other ascending there same = go (is_same id other) refl
  where
    first : o.id ≡ id
    first = let e : o ≡ d = cc in ap (λ (x : Doubt). x.id) e ∙ same

    go : (b : Bool) → is_same id other ≡ b → waits_of doubts other ≡ cond b None (cond (is_same o.id other) (Some o.waits.items) (waits_of doubts other))
    go true is =
        subst (λ (x : TxId). waits_of doubts x ≡ None) (is_one id other is)
        (none_after id doubts (subst (λ (x : TxId). AllByRecursion (Follows x) doubts) first ascending.0))
    go false is =
        ap (λ (b : Bool). cond b (Some o.waits.items) (waits_of doubts other)) (sym (ap (λ (x : TxId). is_same x other) first ∙ is))
waits_removed (o ∷ doubts) (suc at) d id other ascending there same =
    ap (λ (w : Option (List ℕ)). cond (is_same o.id other) (Some o.waits.items) w) (waits_removed doubts at d id other ascending.1 there same)
    ∙ swapped (is_same id other) (is_same o.id other) None (Some o.waits.items) (waits_of doubts other)
    (apart_of o.id id other (subst (λ (x : TxId). precedes o.id x ≡ true) same (all_there (Follows o.id) doubts at d ascending.0 there)))

pub waits_inserted : (doubts : List Doubt) (at : ℕ) (d : Doubt) (other : TxId) → at ≤ length doubts → IsPlaceOf doubts d.id at
    → waits_of (insert doubts at d) other ≡ cond (is_same d.id other) (Some d.waits.items) (waits_of doubts other)
waits_inserted [] zero d other bound place = refl
waits_inserted [] (suc at) d other bound place = refl
waits_inserted (o ∷ doubts) zero d other bound place = refl
waits_inserted (o ∷ doubts) (suc at) d other bound place =
    ap (λ (w : Option (List ℕ)). cond (is_same o.id other) (Some o.waits.items) w) (waits_inserted doubts at d other (omega (arith, bound)) (tail o doubts d.id at place))
    ∙ swapped (is_same d.id other) (is_same o.id other) (Some d.waits.items) (Some o.waits.items) (waits_of doubts other)
    (apart_of o.id d.id other (front o doubts d.id at place))

-- what is taken away after a change is the one before it
pub removed_set : (doubts : List Doubt) (at : ℕ) (now : Doubt) → remove (set doubts at now) at ≡ remove doubts at
removed_set [] zero now = refl
removed_set [] (suc at) now = refl
removed_set (o ∷ doubts) zero now = refl
removed_set (o ∷ doubts) (suc at) now = ap (λ (ds : List Doubt). o ∷ ds) (removed_set doubts at now)

-- ---- a grant

-- the entry without the participant
pub record IsWithout (doubts : List Doubt) (id : TxId) (at memory : ℕ) (there : IsAt doubts id at) (now : Doubt) : Type 0 where
  pub same : now.id ≡ there.doubt.id
  pub waits : now.waits.items ≡ without memory there.doubt.waits.items

pub last_is : (doubts : List Doubt) (id : TxId) (at memory : ℕ) (there : IsAt doubts id at) (now : Doubt) → IsWithout doubts id at memory there now
    → (length now.waits.items == 0) ≡ is_last (waits_of doubts id) memory
last_is doubts id at memory there now is =
    ap (λ (ns : List ℕ). length ns == 0) is.waits ∙ sym (ap (λ (w : Option (List ℕ)). is_last w memory) there.waits)

by_last : (b : Bool) (waits : List ℕ) → (length waits == 0) ≡ b → cond (length waits == 0) None (Some waits) ≡ cond b None (Some waits)
by_last b waits is = ap (λ (t : Bool). cond t None (Some waits)) is

pub left_is : (doubts : List Doubt) (id : TxId) (at memory : ℕ) (there : IsAt doubts id at) (now : Doubt) → IsWithout doubts id at memory there now
    → (b : Bool) → (length now.waits.items == 0) ≡ b → cond b None (Some now.waits.items) ≡ after_grant (waits_of doubts id) memory
left_is doubts id at memory there now is b empty =
    sym (by_last b now.waits.items empty)
    ∙ ap (λ (ns : List ℕ). cond (length ns == 0) None (Some ns)) is.waits
    ∙ sym (ap (λ (w : Option (List ℕ)). after_grant w memory) there.waits)

pub granted_last : (doubts : List Doubt) (id : TxId) (at memory : ℕ) (there : IsAt doubts id at) (now : Doubt) → AreAscending doubts → IsWithout doubts id at memory there now
    → (length now.waits.items == 0) ≡ true
    → (other : TxId) → waits_of (remove (set doubts at now) at) other ≡ cond (is_same id other) (after_grant (waits_of doubts id) memory) (waits_of doubts other)
granted_last doubts id at memory there now ascending is empty other =
    ap (λ (ds : List Doubt). waits_of ds other) (removed_set doubts at now)
    ∙ waits_removed doubts at there.doubt id other ascending there.there there.same
    ∙ ap (λ (w : Option (List ℕ)). cond (is_same id other) w (waits_of doubts other)) (left_is doubts id at memory there now is true empty)

pub granted_more : (doubts : List Doubt) (id : TxId) (at memory : ℕ) (there : IsAt doubts id at) (now : Doubt) → AreAscending doubts → IsWithout doubts id at memory there now
    → (length now.waits.items == 0) ≡ false
    → (other : TxId) → waits_of (set doubts at now) other ≡ cond (is_same id other) (after_grant (waits_of doubts id) memory) (waits_of doubts other)
granted_more doubts id at memory there now ascending is empty other =
    waits_set doubts at there.doubt now id other ascending there.there there.same (is.same ∙ there.same)
    ∙ ap (λ (w : Option (List ℕ)). cond (is_same id other) w (waits_of doubts other)) (left_is doubts id at memory there now is false empty)
