-- What is taken from a shelf, and given back.
use Rattle.std.proofs.Common.{◌≡◌, ◌≢◌, ◌⊎◌, ◌<◌, ◌≤◌, ◌+◌, ◌==◌, ◌&&◌, ◌||◌, not, inl, inr, ℕ, zero, suc, Bool, true, false, List, [], ◌∷◌, ◌++◌, length, Option, Some, None, is_some, refl, sym, ap, subst, ◌∙◌, arith, if◌then◌else◌, option_to_list}
use Rattle.std.specs.List.{slice_get}
use Rattle.std.proofs.lemmas.Bool.{cases_eq, ne_eqb, eq-eqb}
use Rattle.std.proofs.lemmas.List.{length-append, append-nil}
use Rattle.sfs_base.specs.Fault.{Rose}
use Rattle.disk_model.specs.Crash.{History}
use Rattle.disk_model.specs.declared.disk.Disk.{Ghosts}
use Rattle.disk_model.specs.Health.{Health}
use Rattle.mini_tx.specs.declared.geometry.Geometry4.{Geometry4}
use Rattle.mem_node.specs.Node.{node_disk_of}
use Rattle.cluster_parts.specs.declared.memory_slot.MemorySlot.{MemorySlot}
use Rattle.cluster_parts.specs.Slots.{node_in}
use Rattle.cluster_memories.specs.Memories.{setup_for}
use Rattle.cluster_format.specs.declared.cluster_fault.ClusterFault.{ClusterFault}
use Rattle.cluster_format.specs.declared.cluster_fault.ClusterFault.TheVariants.{Failed, Other, Damaged, NoMemory}
use Rattle.cluster_format.specs.Formats.{AreFresh, DiskFailed, GivesBack, HasFailed, IsFresh, IsGivenBack, IsHeld, Leaves, Shelves, Takes}

got_split : {A : Type 0} (xs : List A) (y : A) (j : ℕ) (x : A) → slice_get (xs ++ y ∷ []) j ≡ Some x → (slice_get xs j ≡ Some x) ⊎ ((j ≡ length xs) × (y ≡ x))
got_split [] y zero x is = inr (refl, cc)
got_split [] y (suc j) x is = absurd cc
got_split (z ∷ xs) y zero x is = inl is
got_split (z ∷ xs) y (suc j) x is = elim (got_split xs y j x is) [
  | inl front ↦ inl front
  | inr last ↦ inr (ap suc last.0, last.1)
]

got_front : {A : Type 0} (xs ys : List A) (j : ℕ) (x : A) → slice_get xs j ≡ Some x → slice_get (xs ++ ys) j ≡ Some x
got_front [] ys j x is = absurd cc
got_front (z ∷ xs) ys zero x is = is
got_front (z ∷ xs) ys (suc j) x is = got_front xs ys j x is

got_last : {A : Type 0} (xs : List A) (y : A) → slice_get (xs ++ y ∷ []) (length xs) ≡ Some y
got_last [] y = refl
got_last (z ∷ xs) y = got_last xs y

or_cases : (a b : Bool) → (a || b) ≡ true → (a ≡ true) ⊎ (b ≡ true)
or_cases true b is = inl refl
or_cases false b is = inr is

or_true : (a b : Bool) → b ≡ true → (a || b) ≡ true
or_true true b is = refl
or_true false b is = is

eqb_is : (j k : ℕ) → (j == k) ≡ true → j ≡ k
eqb_is j k is = elim (cases_eq j k) [
  | inl same ↦ same
  | inr other ↦ absurd (let no : (j == k) ≡ false = ne_eqb j k other in let e : ◌≡◌ {A = Bool} true false = sym is ∙ no in cc)
]

not_both : (b : Bool) → b ≡ true → b ≡ false → ⊥
not_both true is other = absurd cc
not_both false is other = absurd cc

module _ {H D : Type 0} (s : Shelves H D) where
  -- what failed since then failed since the first
  pub failed_since : (health : D → Health) (k : ℕ) (first now later : H) (fault : ClusterFault) → (s.tells first → s.tells now) → s.faults now ≡ s.faults first
      → (s.tells first → s.disks now k ≡ s.disks first k) → HasFailed s health k now later fault → HasFailed s health k first later fault
  failed_since health k first now later Failed stays faults same (inl rose) = inl (subst (λ (n : ℕ). Rose n (s.faults later)) faults rose)
  failed_since health k first now later Failed stays faults same (inr disk) = inr (record {
    before = disk.before;
    now = disk.now;
    was = λ t. sym (same t) ∙ disk.was (stays t);
    is = λ t. disk.is (stays t);
    rose = disk.rose;
  })
  failed_since health k first now later Other stays faults same failed = failed
  failed_since health k first now later (Damaged at) stays faults same failed = tt
  failed_since health k first now later NoMemory stays faults same failed = tt

  -- and is so when the others are given back
  pub failed_then : (health : D → Health) (k : ℕ) (first now later : H) (fault : ClusterFault) → (s.tells first → s.tells now) → s.faults later ≡ s.faults now
      → (s.tells now → s.disks later k ≡ s.disks now k) → HasFailed s health k first now fault → HasFailed s health k first later fault
  failed_then health k first now later Failed stays faults same (inl rose) = inl (subst (λ (n : ℕ). Rose (s.faults first) n) (sym faults) rose)
  failed_then health k first now later Failed stays faults same (inr disk) = inr (record {
    before = disk.before;
    now = disk.now;
    was = disk.was;
    is = λ t. same (stays t) ∙ disk.is t;
    rose = disk.rose;
  })
  failed_then health k first now later Other stays faults same failed = failed
  failed_then health k first now later (Damaged at) stays faults same failed = tt
  failed_then health k first now later NoMemory stays faults same failed = tt

  -- the last one is laid back
  pub record Lays (k : ℕ) (disk : D) (old new : H) : Type 0 where
    pub stays : s.tells old → s.tells new
    pub before : s.tells new → s.tells old
    pub given : s.tells old → (j : ℕ) → s.disks new j ≡ (if j == k then Some disk else s.disks old j)
    pub taken : (j : ℕ) → s.is_taken new j ≡ (if j == k then false else s.is_taken old j)
    pub faults : s.faults new ≡ s.faults old

module _ {H D : Type 0} {G : Ghosts D} (s : Shelves H D) (told : D → Type 0) where
  abbrev disk_in : MemorySlot D G → D
  disk_in slot = node_disk_of (node_in slot)

  -- nothing is taken yet
  pub none_held : (first : H) (slots : List (MemorySlot D G)) → slots ≡ [] → IsHeld s told first first slots
  none_held first slots is = subst (IsHeld s told first first) (sym is) (record {
    stays = λ t. t;
    before = λ t. t;
    taken = λ j t. inr t;
    held = λ j below. absurd (omega (arith, below));
    own = λ t j slot there. absurd cc;
    lay = λ t j below. absurd (omega (arith, below));
    there = λ t j past. refl;
  })

  -- one more is taken
  pub held_more : (first now later : H) (slots new : List (MemorySlot D G)) (slot : MemorySlot D G) (k : ℕ) → k ≡ length slots → new ≡ slots ++ slot ∷ [] → IsHeld s told first now slots
      → Takes s k now later → (s.tells first → told (disk_in slot)) → IsHeld s told first later new
  held_more first now later slots new slot k is_k is held takes own = subst (IsHeld s told first later) (sym is) (record {
    stays = λ t. takes.stays (held.stays t);
    before = λ t. held.before (takes.before t);
    taken = λ j t. elim (or_cases (j == k) (s.is_taken now j) (sym (takes.taken j) ∙ t)) [
      | inl same ↦ inl (let e = eqb_is j k same in omega (arith, e, is_k, many))
      | inr was ↦ elim (held.taken j was) [ inl below ↦ inl (omega (arith, below, many)) | inr old ↦ inr old ]
    ];
    held = λ j below. takes.taken j ∙ elim (cases_eq j k) [
      | inl same ↦ ap (λ (b : Bool). b || s.is_taken now j) (eq-eqb j k same)
      | inr other ↦ or_true (j == k) (s.is_taken now j) (held.held j (omega (arith, below, other, is_k, many)))
    ];
    own = λ t j x there. elim (got_split slots slot j x there) [
      | inl old ↦ held.own t j x old
      | inr last ↦ subst (λ (y : MemorySlot D G). told (disk_in y)) last.1 (own t)
    ];
    lay = λ t j below. elim (cases_eq j k) [
      | inl same ↦ sym (held.there t j (omega (arith, same, is_k))) ∙ ap (λ (i : ℕ). is_some (s.disks now i)) same ∙ takes.was (held.stays t)
      | inr other ↦ held.lay t j (omega (arith, below, other, is_k, many))
    ];
    there = λ t j past.
        let apart : ¬ (j ≡ k) = λ same. omega (arith, same, past, is_k, many) in
        ap (λ (o : Option D). is_some o) (takes.rest (held.stays t) j ∙ ap (λ (b : Bool). if b then None else s.disks now j) (ne_eqb j k apart))
        ∙ held.there t j (omega (arith, past, many));
  })
    where
      many : length (slots ++ slot ∷ []) ≡ length slots + 1
      many = length-append slots (slot ∷ [])

  -- the next one is refused
  pub held_still : (first now later : H) (slots : List (MemorySlot D G)) (k : ℕ) → k ≡ length slots → IsHeld s told first now slots → Leaves s k now later → IsHeld s told first later slots
  held_still first now later slots k is_k held leaves = record {
    stays = λ t. leaves.stays (held.stays t);
    before = λ t. held.before (leaves.before t);
    taken = λ j t. held.taken j (leaves.back j t);
    held = λ j below. leaves.own j (λ same. omega (arith, same, below, is_k)) ∙ held.held j below;
    own = held.own;
    lay = held.lay;
    there = λ t j past. leaves.there (held.stays t) j ∙ held.there t j past;
  }

  -- all are given back
  pub given_back : (first now later : H) (slots : List (MemorySlot D G)) → IsHeld s told first now slots → GivesBack s (length slots) now later → IsGivenBack s first later
  given_back first now later slots held gives = record {
    stays = λ t. gives.stays (held.stays t);
    taken = λ j t. by_place j t (nat_cases j (length slots));
    there = λ t j. lies t j (nat_cases j (length slots));
  }
    where
      nat_cases : (j n : ℕ) → (j < n) ⊎ (n ≤ j)
      nat_cases j zero = inr (omega arith)
      nat_cases zero (suc n) = inl (omega arith)
      nat_cases (suc j) (suc n) = elim (nat_cases j n) [ inl below ↦ inl (omega (arith, below)) | inr past ↦ inr (omega (arith, past)) ]

      by_place : (j : ℕ) → s.is_taken later j ≡ true → (j < length slots) ⊎ (length slots ≤ j) → s.is_taken first j ≡ true
      by_place j t (inl below) = absurd (not_both (s.is_taken later j) t (gives.back j below))
      by_place j t (inr past) = elim (held.taken j (sym (gives.left j past) ∙ t)) [ inl below ↦ absurd (omega (arith, below, past)) | inr old ↦ old ]

      lies : s.tells first → (j : ℕ) → (j < length slots) ⊎ (length slots ≤ j) → is_some (s.disks later j) ≡ is_some (s.disks first j)
      lies t j (inl below) = gives.there (held.stays t) j below ∙ sym (held.lay t j below)
      lies t j (inr past) = ap (λ (o : Option D). is_some o) (gives.others (held.stays t) j past) ∙ held.there t j past

  -- ---- one disk after another

  -- of so many these are left to be given back
  pub record Gives (count : ℕ) (first now : H) (slots : List (MemorySlot D G)) : Type 0 where
    pub few : length slots ≤ count
    pub held : (j : ℕ) → j < length slots → s.is_taken now j ≡ true
    pub own : s.tells now → (j : ℕ) (slot : MemorySlot D G) → slice_get slots j ≡ Some slot → told (disk_in slot)
    pub stays : s.tells first → s.tells now
    pub before : s.tells now → s.tells first
    pub back : (j : ℕ) → length slots ≤ j → j < count → s.is_taken now j ≡ false
    pub left : (j : ℕ) → count ≤ j → s.is_taken now j ≡ s.is_taken first j
    pub there : s.tells first → (j : ℕ) → length slots ≤ j → j < count → is_some (s.disks now j) ≡ true
    pub others : s.tells first → (j : ℕ) → count ≤ j → s.disks now j ≡ s.disks first j
    pub faults : s.faults now ≡ s.faults first

  pub gives_first : (first : H) (slots : List (MemorySlot D G)) → ((j : ℕ) → j < length slots → s.is_taken first j ≡ true)
      → (s.tells first → (j : ℕ) (slot : MemorySlot D G) → slice_get slots j ≡ Some slot → told (disk_in slot)) → Gives (length slots) first first slots
  gives_first first slots held own = record {
    few = omega arith;
    held = held;
    own = own;
    stays = λ t. t;
    before = λ t. t;
    back = λ j past below. absurd (omega (arith, past, below));
    left = λ j past. refl;
    there = λ t j past below. absurd (omega (arith, past, below));
    others = λ t j past. refl;
    faults = refl;
  }

  pub gives_more : (count : ℕ) (first now later : H) (slots rest : List (MemorySlot D G)) (slot : MemorySlot D G) (disk : D) (k : ℕ) → slots ≡ rest ++ slot ∷ [] → k ≡ length rest
      → Gives count first now slots → Lays s k disk now later → Gives count first later rest
  gives_more count first now later slots rest slot disk k is is_k gives lays = record {
    few = let few = gives.few in omega (arith, few, many);
    held = λ j below. other_taken j (λ same. omega (arith, same, below, is_k)) ∙ gives.held j (omega (arith, below, many));
    own = λ t j x there. gives.own (lays.before t) j x (ap (λ (xs : List (MemorySlot D G)). slice_get xs j) is ∙ got_front rest (slot ∷ []) j x there);
    stays = λ t. lays.stays (gives.stays t);
    before = λ t. gives.before (lays.before t);
    back = λ j past below. elim (cases_eq j k) [
      | inl same ↦ lays.taken j ∙ ap (λ (b : Bool). if b then false else s.is_taken now j) (eq-eqb j k same)
      | inr other ↦ other_taken j other ∙ gives.back j (omega (arith, past, other, is_k, many)) below
    ];
    left = λ j past. other_taken j (λ same. let few = gives.few in omega (arith, same, past, is_k, many, few)) ∙ gives.left j past;
    there = λ t j past below. elim (cases_eq j k) [
      | inl same ↦ ap (λ (o : Option D). is_some o) (lays.given (gives.stays t) j ∙ ap (λ (b : Bool). if b then Some disk else s.disks now j) (eq-eqb j k same))
      | inr other ↦ ap (λ (o : Option D). is_some o) (other_disk t j other) ∙ gives.there t j (omega (arith, past, other, is_k, many)) below
    ];
    others = λ t j past. other_disk t j (λ same. let few = gives.few in omega (arith, same, past, is_k, many, few)) ∙ gives.others t j past;
    faults = lays.faults ∙ gives.faults;
  }
    where
      many : length slots ≡ length rest + 1
      many = ap (λ (xs : List (MemorySlot D G)). length xs) is ∙ length-append rest (slot ∷ [])

      other_taken : (j : ℕ) → ¬ (j ≡ k) → s.is_taken later j ≡ s.is_taken now j
      other_taken j other = lays.taken j ∙ ap (λ (b : Bool). if b then false else s.is_taken now j) (ne_eqb j k other)

      other_disk : s.tells first → (j : ℕ) → ¬ (j ≡ k) → s.disks later j ≡ s.disks now j
      other_disk t j other = lays.given (gives.stays t) j ∙ ap (λ (b : Bool). if b then Some disk else s.disks now j) (ne_eqb j k other)

  pub gives_all : (count : ℕ) (first now : H) (slots : List (MemorySlot D G)) → slots ≡ [] → Gives count first now slots → GivesBack s count first now
  gives_all count first now slots is gives = record {
    stays = gives.stays;
    before = gives.before;
    back = λ j below. gives.back j (let none : length slots ≡ 0 = ap (λ (xs : List (MemorySlot D G)). length xs) is in omega (arith, none)) below;
    left = gives.left;
    there = λ t j below. gives.there t j (let none : length slots ≡ 0 = ap (λ (xs : List (MemorySlot D G)). length xs) is in omega (arith, none)) below;
    others = gives.others;
    faults = gives.faults;
  }

-- ---- freshness

pub fresh_more : {D : Type 0} {G : Ghosts D} (tells : D → Type 0) (history : D → History) (health : D → Health) (g : Geometry4) (told : Type 0) (slots new : List (MemorySlot D G)) (slot : MemorySlot D G)
    (m : ℕ) → m ≡ length slots → new ≡ slots ++ slot ∷ [] → AreFresh tells history health g told slots → IsFresh tells history health (setup_for g m) told slot → AreFresh tells history health g told new
fresh_more {D = D} {G = G} tells history health g told slots new slot m is_m is all one =
    subst (AreFresh tells history health g told) (sym is) (λ j x there. elim (got_split slots slot j x there) [
      | inl old ↦ all j x old
      | inr last ↦
          subst (λ (y : MemorySlot D G). IsFresh tells history health (setup_for g j) told y) last.1
          (subst (λ (i : ℕ). IsFresh tells history health (setup_for g i) told slot) (is_m ∙ sym last.0) one)
    ])

pub got_behind : {A : Type 0} (all front : List A) (y : A) → all ≡ front ++ y ∷ [] → slice_get all (length front) ≡ Some y
got_behind all front y is = ap (λ (xs : List _). slice_get xs (length front)) is ∙ got_last front y
