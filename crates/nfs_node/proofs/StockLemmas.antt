-- What moves from the cache into a work set, one by one.
use Rattle.std.proofs.Common.{◌≡◌, ◌⊎◌, inl, inr, ℕ, zero, suc, true, false, cond, Bool, List, [], ◌∷◌, length, Option, Some, None, refl, sym, ap, subst, ◌∙◌, arith}
use Rattle.std.specs.Prelude.{nat_eq, nat_le, is_some, slice_get, slice_set, unwrap_or, option_map, option_and_then}
use Rattle.std.specs.Option.{option_map_or}
use Rattle.std.specs.List.{AllByRecursion}
use Rattle.std.proofs.lemmas.Bool.{eqb-true}
use Rattle.node_cache.specs.declared.entry.Entry.{Entry}
use Rattle.node_cache.specs.declared.want.Want.{Want}
use Rattle.node_cache.specs.declared.want.Want.TheVariants as want
use Rattle.node_cache.specs.Cached.{held_of, but_for}
use Rattle.plan_rules.specs.Fetched.{changed_in, put_entry}
use Rattle.node_rules.specs.declared.arrival.Arrival.{Arrival}
use Rattle.node_rules.specs.Order.{IsPage}
use Rattle.node_rules.specs.Stock.{Stock, gathered, gathered_in, map_in, moved, pages, parts, wanted_by, with_file, with_map}

-- ---- how much there is to move

less_by : (n : ℕ) (e f : Entry) (es : List Entry) (b : Bool) → cond b (Some e) (held_of n es) ≡ Some f → (held_of n es ≡ Some f → suc (length (but_for n es)) ≡ length es)
    → suc (length (cond b es (e ∷ but_for n es))) ≡ suc (length es)
less_by n e f es true is rest = refl
less_by n e f es false is rest = ap suc (rest is)

file_less : (n : ℕ) (f : Entry) (es : List Entry) → held_of n es ≡ Some f → suc (length (but_for n es)) ≡ length es
unfolding but_for
file_less n f [] is = absurd cc
file_less n f (e ∷ es) is = less_by n e f es (nat_eq n e.number) is (file_less n f es)

page_less : (m : ℕ) (page : List ℕ) (maps : List (Option (List ℕ))) → unwrap_or (slice_get maps m) None ≡ Some page → suc (pages (slice_set maps m None)) ≡ pages maps
page_less m page [] is = absurd cc
page_less zero page (None ∷ maps) is = absurd cc
page_less zero page (Some x ∷ maps) is = refl
page_less (suc m) page (None ∷ maps) is = page_less m page maps is
page_less (suc m) page (Some x ∷ maps) is = ap suc (page_less m page maps is)

file_moved : (s u : Stock) (n : ℕ) (o : Option Entry) → held_of n s.cache.files ≡ o → option_map (with_file s n) o ≡ Some u → suc (parts u.cache) ≡ parts s.cache
file_moved s u n None there is = absurd cc
file_moved s u n (Some e) there is =
    let same : with_file s n e ≡ u = cc in
    let less = file_less n e s.cache.files there in
    subst (λ t. suc (parts t.cache) ≡ parts s.cache) same (omega (arith, less))

map_moved : (s u : Stock) (m : ℕ) (o : Option (List ℕ)) → map_in s.cache m ≡ o → option_map (with_map s m) o ≡ Some u → suc (parts u.cache) ≡ parts s.cache
map_moved s u m None there is = absurd cc
map_moved s u m (Some page) there is =
    let same : with_map s m page ≡ u = cc in
    let less = page_less m page s.cache.maps there in
    subst (λ t. suc (parts t.cache) ≡ parts s.cache) same (omega (arith, less))

-- with each move the cache has one part less
pub parts_less : (s u : Stock) (w : Want) → moved s w ≡ Some u → suc (parts u.cache) ≡ parts s.cache
parts_less s u (want.Inode n) is = file_moved s u n (held_of n s.cache.files) refl is
parts_less s u (want.Chain n k) is = absurd cc
parts_less s u (want.Slots n g) is = absurd cc
parts_less s u (want.Map m) is = map_moved s u m (map_in s.cache m) refl is

-- ---- all that is moved

step_by : (a : Arrival) (s : Stock) (k : ℕ) → gathered_in (suc k) a s ≡ option_map_or (gathered_in k a) (option_and_then (moved s) (wanted_by a s.held)) s
unfolding gathered_in
step_by a s k = refl

-- what is wanted was moved, and so on
pub gathered_on : (a : Arrival) (s u : Stock) (w : Want) → wanted_by a s.held ≡ Some w → moved s w ≡ Some u → gathered a s ≡ gathered a u
gathered_on a s u w wants moves =
    ap (λ k. gathered_in k a s) (sym (parts_less s u w moves)) ∙ step_by a s (parts u.cache)
    ∙ ap (λ o. option_map_or (gathered_in (parts u.cache) a) (option_and_then (moved s) o) s) wants
    ∙ ap (λ o. option_map_or (gathered_in (parts u.cache) a) o s) moves

done_by : (a : Arrival) (s : Stock) (k : ℕ) → option_and_then (moved s) (wanted_by a s.held) ≡ None → gathered_in k a s ≡ s
unfolding gathered_in
done_by a s zero none = refl
done_by a s (suc k) none = ap (λ o. option_map_or (gathered_in k a) o s) none

-- nothing is left to be moved
pub gathered_done : (a : Arrival) (s : Stock) → option_and_then (moved s) (wanted_by a s.held) ≡ None → gathered a s ≡ s
gathered_done a s none = done_by a s (parts s.cache) none

-- ---- entries that are looked for

none_by : (n k : ℕ) (e : Entry) (es : List Entry) (b : Bool) → held_of k (e ∷ es) ≡ None → (held_of k es ≡ None → held_of k (but_for n es) ≡ None)
    → (c : Bool) → nat_eq k e.number ≡ c → held_of k (cond b es (e ∷ but_for n es)) ≡ None
none_by n k e es b none rest true is = absurd (let x = ap (λ t. cond t (Some e) (held_of k es)) is in cc (x, none))
none_by n k e es true none rest false is = sym (ap (λ t. cond t (Some e) (held_of k es)) is) ∙ none
none_by n k e es false none rest false is =
    ap (λ t. cond t (Some e) (held_of k (but_for n es))) is ∙ rest (sym (ap (λ t. cond t (Some e) (held_of k es)) is) ∙ none)

-- where there is none, none is left
pub still_none : (n k : ℕ) (es : List Entry) → held_of k es ≡ None → held_of k (but_for n es) ≡ None
unfolding but_for
still_none n k [] none = refl
still_none n k (e ∷ es) none = none_by n k e es (nat_eq n e.number) none (still_none n k es) (nat_eq k e.number) refl

abbrev IsHeldNow : ℕ → List Entry → Type 0
IsHeldNow k es = is_some (held_of k es) ≡ true

behind : (k : ℕ) (f : Entry) (es : List Entry) (b : Bool) → IsHeldNow k es → is_some (cond b (Some f) (held_of k es)) ≡ true
behind k f es true is = refl
behind k f es false is = is

first_or : (k : ℕ) (e : Entry) (es : List Entry) (b : Bool) → nat_eq k e.number ≡ b → is_some (cond b (Some e) (held_of k es)) ≡ true → (k ≡ e.number) ⊎ IsHeldNow k es
first_or k e es true is there = inl (eqb-true k e.number is)
first_or k e es false is there = inr there

later : (k : ℕ) (e f : Entry) (es : List Entry) → (k ≡ e.number) ⊎ IsHeldNow k es → (k ≡ e.number) ⊎ IsHeldNow k (f ∷ es)
later k e f es (inl is) = inl is
later k e f es (inr is) = inr (behind k f es (nat_eq k f.number) is)

same_or : (k : ℕ) (e f : Entry) (es : List Entry) (b : Bool) → nat_eq k f.number ≡ b → is_some (cond b (Some f) (held_of k (put_entry e es))) ≡ true
    → (IsHeldNow k (put_entry e es) → (k ≡ e.number) ⊎ IsHeldNow k es) → (k ≡ e.number) ⊎ IsHeldNow k (f ∷ es)
same_or k e f es true is there rest = inr (ap (λ t. is_some (cond t (Some f) (held_of k es))) is)
same_or k e f es false is there rest = later k e f es (rest there)

put_by : (k : ℕ) (e f : Entry) (es : List Entry) (b t : Bool) → IsHeldNow k (cond b (cond t (e ∷ es) (e ∷ f ∷ es)) (f ∷ put_entry e es))
    → (IsHeldNow k (put_entry e es) → (k ≡ e.number) ⊎ IsHeldNow k es) → (k ≡ e.number) ⊎ IsHeldNow k (f ∷ es)
put_by k e f es true true there rest = later k e f es (first_or k e es (nat_eq k e.number) refl there)
put_by k e f es true false there rest = first_or k e (f ∷ es) (nat_eq k e.number) refl there
put_by k e f es false t there rest = same_or k e f es (nat_eq k f.number) refl there rest

-- what is found once an entry was put is of its number, or was there
pub put_found : (k : ℕ) (e : Entry) (es : List Entry) → is_some (held_of k (put_entry e es)) ≡ true → (k ≡ e.number) ⊎ (is_some (held_of k es) ≡ true)
unfolding put_entry
put_found k e [] there = first_or k e [] (nat_eq k e.number) refl there
put_found k e (f ∷ es) there = put_by k e f es (nat_le e.number f.number) (nat_eq f.number e.number) there (put_found k e es)

module _ (n k : ℕ) (change : Entry → Entry) (same : (e : Entry) → (change e).number ≡ e.number) where
  behind_by : (e : Entry) (es fs : List Entry) (b : Bool) → is_some (cond b (Some e) (held_of k fs)) ≡ true → (IsHeldNow k fs → IsHeldNow k es)
      → is_some (cond b (Some e) (held_of k es)) ≡ true
  behind_by e es fs true there rest = refl
  behind_by e es fs false there rest = rest there

  first_by : (e : Entry) (es : List Entry) (b : Bool) → nat_eq k e.number ≡ b → is_some (cond (nat_eq k (change e).number) (Some (change e)) (held_of k es)) ≡ true
      → is_some (cond b (Some e) (held_of k es)) ≡ true
  first_by e es true is there = refl
  first_by e es false is there = sym (ap (λ t. is_some (cond t (Some (change e)) (held_of k es))) (ap (nat_eq k) (same e) ∙ is)) ∙ there

  changed_by : (e : Entry) (es : List Entry) (b : Bool) → IsHeldNow k (cond b (change e ∷ es) (e ∷ changed_in n change es))
      → (IsHeldNow k (changed_in n change es) → IsHeldNow k es) → IsHeldNow k (e ∷ es)
  changed_by e es true there rest = first_by e es (nat_eq k e.number) refl there
  changed_by e es false there rest = behind_by e es (changed_in n change es) (nat_eq k e.number) there rest

  -- what is found once an entry was changed was there
  pub changed_found : (es : List Entry) → is_some (held_of k (changed_in n change es)) ≡ true → is_some (held_of k es) ≡ true
  unfolding changed_in
  changed_found [] there = there
  changed_found (e ∷ es) there = changed_by e es (nat_eq n e.number) there (changed_found es)

-- ---- entries that have a property

module _ (P : Entry → Type 0) where
  abbrev AreFit : List Entry → Type 0
  AreFit es = AllByRecursion P es

  but_by : (n : ℕ) (e : Entry) (es : List Entry) (b : Bool) → AreFit (e ∷ es) → AreFit (but_for n es) → AreFit (cond b es (e ∷ but_for n es))
  but_by n e es true all rest = all.1
  but_by n e es false all rest = (all.0, rest)

  pub but_fit : (n : ℕ) (es : List Entry) → AllByRecursion P es → AllByRecursion P (but_for n es)
  unfolding but_for
  but_fit n [] all = tt
  but_fit n (e ∷ es) all = but_by n e es (nat_eq n e.number) all (but_fit n es all.1)

  found_by : (n : ℕ) (e f : Entry) (es : List Entry) (b : Bool) → nat_eq n e.number ≡ b → AreFit (e ∷ es) → cond b (Some e) (held_of n es) ≡ Some f
      → (held_of n es ≡ Some f → P f × (n ≡ f.number)) → P f × (n ≡ f.number)
  found_by n e f es true is all there rest =
      let same : e ≡ f = cc in subst (λ (x : Entry). P x × (n ≡ x.number)) same (all.0, eqb-true n e.number is)
  found_by n e f es false is all there rest = rest there

  -- the entry of a number
  pub found_fit : (n : ℕ) (f : Entry) (es : List Entry) → AllByRecursion P es → held_of n es ≡ Some f → P f × (n ≡ f.number)
  found_fit n f [] all there = absurd cc
  found_fit n f (e ∷ es) all there = found_by n e f es (nat_eq n e.number) refl all there (found_fit n f es all.1)

  put_fit_by : (e f : Entry) (fs : List Entry) (b t : Bool) → P e → AreFit (f ∷ fs) → AreFit (put_entry e fs)
      → AreFit (cond b (cond t (e ∷ fs) (e ∷ f ∷ fs)) (f ∷ put_entry e fs))
  put_fit_by e f fs true true fit all more = (fit, all.1)
  put_fit_by e f fs true false fit all more = (fit, all)
  put_fit_by e f fs false t fit all more = (all.0, more)

  pub put_fit : (e : Entry) (fs : List Entry) → P e → AllByRecursion P fs → AllByRecursion P (put_entry e fs)
  unfolding put_entry
  put_fit e [] fit all = (fit, tt)
  put_fit e (f ∷ fs) fit all = put_fit_by e f fs (nat_le e.number f.number) (nat_eq f.number e.number) fit all (put_fit e fs fit all.1)

  pub by_place : (es : List Entry) → ((i : ℕ) (e : Entry) → slice_get es i ≡ Some e → P e) → AllByRecursion P es
  by_place [] all = tt
  by_place (e ∷ es) all = (all 0 e refl, by_place es (λ i f is. all (suc i) f is))

  pub at_place : (es : List Entry) → AllByRecursion P es → (i : ℕ) (e : Entry) → slice_get es i ≡ Some e → P e
  at_place [] all zero e is = absurd cc
  at_place [] all (suc i) e is = absurd cc
  at_place (f ∷ fs) all zero e is = let same : f ≡ e = cc in subst (λ x. P x) same all.0
  at_place (f ∷ fs) all (suc i) e is = at_place fs all.1 i e is

-- ---- maps that are pages

pub set_page : (maps : List (Option (List ℕ))) (m : ℕ) (o : Option (List ℕ)) → AllByRecursion IsPage maps → IsPage o → AllByRecursion IsPage (slice_set maps m o)
set_page [] m o all one = tt
set_page (x ∷ maps) zero o all one = (one, all.1)
set_page (x ∷ maps) (suc m) o all one = (all.0, set_page maps m o all.1 one)

pub page_at : (maps : List (Option (List ℕ))) (m : ℕ) (page : List ℕ) → AllByRecursion IsPage maps → unwrap_or (slice_get maps m) None ≡ Some page → length page ≡ 4096
page_at [] m page all is = absurd cc
page_at (None ∷ maps) zero page all is = absurd cc
page_at (Some x ∷ maps) zero page all is = let same : x ≡ page = cc in subst (λ p. length p ≡ 4096) same all.0
page_at (x ∷ maps) (suc m) page all is = page_at maps m page all.1 is

first_page : (o : Option (List ℕ)) → ((page : List ℕ) → o ≡ Some page → length page ≡ 4096) → IsPage o
first_page None all = tt
first_page (Some page) all = all page refl

pub pages_of : (maps : List (Option (List ℕ))) → ((m : ℕ) (page : List ℕ) → slice_get maps m ≡ Some (Some page) → length page ≡ 4096) → AllByRecursion IsPage maps
pages_of [] all = tt
pages_of (x ∷ maps) all = (first_page x (λ page is. all 0 page (ap Some is)), pages_of maps (λ m page is. all (suc m) page is))
