-- A tree is good where its files are in place and connected.
use Rattle.std.proofs.Common.{◌≡◌, ◌≢◌, ℕ, ◌+◌, ◌≤◌, Bool, [], length, Option, Some, None, inl, inr, refl, sym, ap, ◌∙◌, arith}
use Rattle.std.specs.Prelude.{IsTrue, slice_get, count_by, Result, Ok, Err, IfOk, if◌then◌else◌}
use Rattle.std.specs.Option.{option_map_or}
use Rattle.std.specs.FinMap as table
use Rattle.std.specs.FinMap.{remove}
use Rattle.std.proofs.lemmas.Bool.{cases_eq, eq-eqb, ne_eqb}
use Rattle.sfs_base.proofs.MapLemmas.{sum_remove, sum_has, counted_at, get_past_remove}
use Rattle.fs_rules.specs.declared.content.Content.{Content}
use Rattle.fs_rules.specs.declared.content.Content.TheVariants.{Regular, Link, Directory}
use Rattle.fs_rules.specs.declared.entry.Entry.{Entry}
use Rattle.fs_rules.specs.declared.file.File.{File}
use Rattle.fs_rules.specs.declared.plain_tree.PlainTree.{PlainTree}
use Rattle.fs_rules.specs.File.{slots_of}
use Rattle.fs_rules.specs.Geometry.{IsWithinLimits}
use Rattle.fs_rules.specs.Good.{IsGood, names_file, naming_slots, parent_at}
use Rattle.fs_laws.proofs.SumLemmas.{count_has}
use Rattle.fs_laws.proofs.WholeLemmas.{IsWhole, HasLinks, IsDirectory, directory_at, due_at, named_in, named_in_at, named_in_le, whole_from_good, good_from_whole, live_from_named}
use Rattle.fs_good.specs.Counts.{AreNamed}
use Rattle.fs_good.specs.Places.{HasLinksFor, AreInPlace, IsShaped}
use Rattle.fs_good.specs.Reached.{AllLead, IsReady, slots_in, IsNamedBelow}
use Rattle.fs_good.proofs.ReachedLemmas.{named_by_parent}

links_of : (t : PlainTree) (f : File) (c : Content) → HasLinksFor t f.links c → HasLinks t f c
links_of t f (Regular blocks) links = tt
links_of t f (Directory slots parent) links = links
links_of t f (Link blocks) links = tt

links_for : (t : PlainTree) (f : File) (c : Content) → HasLinks t f c → HasLinksFor t f.links c
links_for t f (Regular blocks) links = tt
links_for t f (Directory slots parent) links = links
links_for t f (Link blocks) links = tt

-- a slot of a directory counts there
slot_counts : (t : PlainTree) (d n : ℕ) (f : File) (i : ℕ) (e : Entry) → table.get t.files d ≡ Some f → slice_get (slots_of f.content) i ≡ Some (Some e) → e.file ≡ n → 1 ≤ named_in t d n
slot_counts t d n f i e live there same =
    let counts = count_has (names_file n) (slots_of f.content) i (Some e) there (eq-eqb e.file n same) in
    omega (arith, counts, named_in_at t d n f live)

-- two directories name no more than the whole tree
both_name : (t : PlainTree) (d k n : ℕ) → d ≢ k → named_in t d n + named_in t k n ≤ naming_slots t n
both_name t d k n apart =
    let weight : ℕ × File → ℕ = (λ e. count_by (names_file n) (slots_of e.1.content)) in
    let without = sum_remove weight t.files d in
    let other = sum_has weight (remove t.files d) k in
    let same : counted_at weight (remove t.files d) k ≡ named_in t k n = ap (λ (o : Option File). option_map_or (λ f. count_by (names_file n) (slots_of f.content)) o 0) (get_past_remove t.files d k (λ is. apart (sym is))) in
    omega (arith, without, other, same)

module _ (t : PlainTree) where
  pub good_from_connected : IsWithinLimits t.geometry → IsShaped t → AreInPlace t → AreNamed t → AllLead t → IsGood t
  good_from_connected limits shaped placed named lead =
      let ready : IsReady t = record { shaped = shaped; placed = placed; named = named } in
      good_from_whole t (record {
        geometry = limits;
        root = shaped.root;
        numbers = λ n f is. (placed n f is).number;
        own = λ n f is. (placed n f is).own;
        named = named;
        links = λ n f is. links_of t f f.content (placed n f is).links;
        inside = inside_of ready;
        leads = lead;
        freed = shaped.freed;
        fits = shaped.fits;
      })
    where
      inside_of : IsReady t → (n p : ℕ) → n ≢ 1 → parent_at t n ≡ Some p → named_in t p n ≡ 1
      inside_of ready n p other is =
          let d : IsDirectory t n p = directory_at t n p is in
          let all = ready.named n ∙ due_at t n d.file (Directory d.slots p) d.there d.content ∙ ap (λ b. if b then 0 else 1) (ne_eqb n 1 other) in
          some (table.get t.files p) refl (named_by_parent t ready n p other is) all
        where
          some : (o : Option File) → table.get t.files p ≡ o → IsNamedBelow (slots_in t p) (length (slots_in t p)) n → naming_slots t n ≡ 1 → named_in t p n ≡ 1
          some None none named all =
              let less = named.before in
              absurd (omega (arith, less, ap length (ap (λ (o : Option File). option_map_or (λ f. slots_of f.content) o []) none)))
          some (Some f) live named all =
              let slots : slots_in t p ≡ slots_of f.content = ap (λ (o : Option File). option_map_or (λ f. slots_of f.content) o []) live in
              let here = slot_counts t p n f named.place named.entry live (ap (λ l. slice_get l named.place) (sym slots) ∙ named.there) named.file in
              omega (arith, here, all, named_in_le t p n)

  module _ (good : IsGood t) where
    whole : IsWhole t
    whole = whole_from_good t good

    pub shaped_from_good : IsShaped t
    shaped_from_good = record { root = whole.root; freed = whole.freed; fits = whole.fits }

    under_of : (d : ℕ) (f : File) → table.get t.files d ≡ Some f → (i : ℕ) (e : Entry) → slice_get (slots_of f.content) i ≡ Some (Some e) → (p : ℕ) → parent_at t e.file ≡ Some p → p ≡ d
    under_of d f live i e there p is =
        let here = slot_counts t d e.file f i e live there refl in
        let dir : IsDirectory t e.file p = directory_at t e.file p is in
        let all = whole.named e.file ∙ due_at t e.file dir.file (Directory dir.slots p) dir.there dir.content in
        elim (cases_eq e.file 1) [
          | inl one ↦
              let none : naming_slots t e.file ≡ 0 = all ∙ ap (λ b. if b then 0 else 1) (eq-eqb e.file 1 one) in
              absurd (omega (arith, here, none, named_in_le t d e.file))
          | inr other ↦
              let once : naming_slots t e.file ≡ 1 = all ∙ ap (λ b. if b then 0 else 1) (ne_eqb e.file 1 other) in
              let inside = whole.inside e.file p other is in
              elim (cases_eq p d) [
                | inl same ↦ same
                | inr apart ↦ absurd (omega (arith, here, once, inside, both_name t p d e.file apart))
              ]
        ]

    pub placed_from_good : AreInPlace t
    placed_from_good n f is =
        record {
          number = whole.numbers n f is;
          own = whole.own n f is;
          links = links_for t f f.content (whole.links n f is);
          under = λ i e there. (
            live_from_named t whole e.file (let here = slot_counts t n e.file f i e is there refl in omega (arith, here, named_in_le t n e.file)),
            under_of n f is i e there,
          );
        }

    pub named_from_good : AreNamed t
    named_from_good = whole.named

    pub lead_from_good : AllLead t
    lead_from_good = whole.leads

-- ---- as the code has it

pub connected_by : {E : Type 0} (t : PlainTree) (r : Result Bool E) → AreNamed t → IfOk r (λ are. (IsTrue are → AllLead t) × (AllLead t → IsTrue are))
    → IfOk r (λ are. (IsTrue are → AreNamed t × AllLead t) × (AreNamed t × AllLead t → IsTrue are))
connected_by t (Ok are) named holds = (λ is. (named, holds.0 is), λ both. holds.1 both.1)
connected_by t (Err e) named holds = tt

pub good_by : {E : Type 0} (t : PlainTree) (r : Result Bool E) → IsWithinLimits t.geometry → IsShaped t → AreInPlace t
    → IfOk r (λ are. (IsTrue are → AreNamed t × AllLead t) × (AreNamed t × AllLead t → IsTrue are)) → IfOk r (λ good. (IsTrue good → IsGood t) × (IsGood t → IsTrue good))
good_by t (Ok are) limits shaped placed holds = (
  λ is. let both = holds.0 is in good_from_connected t limits shaped placed both.0 both.1,
  λ good. holds.1 (named_from_good t good, lead_from_good t good),
)
good_by t (Err e) limits shaped placed holds = tt
