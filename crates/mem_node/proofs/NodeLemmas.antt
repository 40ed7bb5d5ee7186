-- What a memory node has done where its log took an entry, or refused it.
use Rattle.std.proofs.Common.{◌≡◌, ◌⊎◌, ◌≤◌, ◌+◌, ◌^◌, ℕ, Bool, true, false, List, [], ◌∷◌, ◌++◌, length, Option, Some, None, Result, Ok, Err, refl, sym, subst, ◌∙◌, arith, inl, inr}
use Rattle.disk_model.specs.Crash.{History, LeavesOnly}
use Rattle.disk_model.specs.declared.disk.Disk.{Ghosts}
use Rattle.disk_model.specs.Health.{Health, Fell, IsLive, Passed, Speaks}
use Rattle.disk_model.proofs.HealthLemmas.{no_calls}
use Rattle.disk_model.proofs.MomentLemmas.{no_moment}
use Rattle.gate_log.specs.declared.log_fault.LogFault.{LogFault}
use Rattle.gate_log.specs.declared.log_fault.LogFault.TheVariants as log
use Rattle.gate_log.specs.Fault.{IsAppendFault}
use Rattle.gate_log.specs.declared.log.Log.{Log}
use Rattle.gate_log.specs.Log.{end_of}
use Rattle.std.proofs.lemmas.List.{append-nil}
use Rattle.mini_tx.specs.declared.entry.Entry.{Entry}
use Rattle.mini_tx.specs.EntryGrammar.{entry_spelling}
use Rattle.mem_node.specs.declared.mem_node.MemNode.{MemNode}
use Rattle.mem_node.specs.declared.node_fault.NodeFault.TheVariants.{NoMemory}
use Rattle.mem_rules.specs.declared.setup.Setup.{Setup}
use Rattle.mem_node.specs.declared.shut.Shut.{Shut}
use Rattle.mem_node.specs.declared.shut.Shut.TheVariants as shut
use Rattle.std.proofs.lemmas.Option.{none-some}
use Rattle.mem_node.specs.Fault.{node_fault, shut_by, shut_fault}
use Rattle.mem_rules.specs.Memory.{state_of}
use Rattle.mem_rules.proofs.ItemLemmas.{small_image}
use Rattle.mem_rules.specs.State.{State, after_entry}
use Rattle.mem_node.specs.Node.{IsSoundOn, IsSound, IsBeforeOrAfter, Handles}
use Rattle.mem_node.proofs.DiskLemmas.{sound_leaves}

pub both_ways : (b : Bool) → b ≡ true → b ≡ false → ⊥
both_ways true is not_ = absurd cc
both_ways false is not_ = absurd cc

pub same_fault : {X E : Type 0} (r : Result X E) (a b : E) → r ≡ Err a → r ≡ Err b → a ≡ b
same_fault r a b one other = cc

IsOk : {X E : Type 0} → Result X E → Type 0
IsOk (Ok x) = Unit {0}
IsOk (Err e) = ⊥

pub not_both : {X E : Type 0} (r : Result X E) (x : X) (e : E) → r ≡ Ok x → r ≡ Err e → ⊥
unfolding IsOk
not_both {X = X} {E = E} r x e ok err = subst (λ (s : Result X E). IsOk s) (sym ok ∙ err) tt

some_not_none : (o : Option Shut) (x : Shut) → o ≡ Some x → o ≡ None → ⊥
some_not_none o x some none = none-some x (sym none ∙ some)

pub second : {A B : Type 0} → (A → ⊥) → A ⊎ B → B
second never (inl a) = absurd (never a)
second never (inr b) = b

pub of_first : {A B C : Type 0} → (A → C) → A ⊎ B → C ⊎ B
of_first f (inl a) = inl (f a)
of_first f (inr b) = inr b

module _ {D : Type 0} {G : Ghosts D} (tells : D → Type 0) (history : D → History) (health : D → Health) where
  abbrev Sound : MemNode D G → List ℕ → List (List ℕ) → Type 0
  Sound node image bytes = IsSound tells history health node image bytes

  -- the moments of a call that has this entry
  abbrev pub Moments : MemNode D G → MemNode D G → Option Entry → Type 0
  Moments before now entry = (image : List ℕ) (bytes : List (List ℕ)) → Sound before image bytes
      → LeavesOnly (history before.log.disk) (history now.log.disk) (IsBeforeOrAfter before.memory.setup image bytes entry)

  -- a crash leaves what a memory node at rest has
  rests : (node : MemNode D G) (entry : Option Entry) → Moments node node entry
  rests node entry image bytes sound =
      no_moment (IsBeforeOrAfter node.memory.setup image bytes entry) (history node.log.disk)
      (λ content left. inl (sound_leaves tells history health node.memory.setup node.log image bytes (state_of node.memory)
      (small_image node.memory.setup node.memory.valid) sound content left))

  -- the same node, whatever proves its invariants and whatever room it has
  pub record IsSame (before now : MemNode D G) : Type 0 where
    pub setup : now.memory.setup ≡ before.memory.setup
    pub state : state_of now.memory ≡ state_of before.memory
    pub log : now.log ≡ before.log
    pub shut : now.shut ≡ before.shut

  rests_on : (before now : MemNode D G) (entry : Option Entry) → IsSame before now → Moments before now entry
  rests_on before now entry same image bytes sound =
      subst (λ (l : Log D). LeavesOnly (history before.log.disk) (history l.disk) (IsBeforeOrAfter before.memory.setup image bytes entry)) (sym same.log)
      (rests before entry image bytes sound)

  -- there was no memory before anything was done
  pub nothing : {X : Type 0} (before now : MemNode D G) (entry : Option Entry) → IsSame before now → Handles {X = X} tells history health before now entry (Err NoMemory)
  nothing before now entry same = record {
    setup = same.setup;
    state = tt;
    refused = same.state;
    sound = tt;
    any_moment = rests_on before now entry same;
    down = λ e. absurd cc;
    full = λ e. absurd cc;
    full_when = λ shut none. inr refl;
    no_memory = λ e. (same.log, same.shut);
    causes = tt;
    running = tt;
    closes = (λ e. absurd cc, λ e. absurd cc);
    still = λ speaks. subst (λ (l : Log D). tells l.disk) (sym same.log) speaks.0;
    full_log = λ e. absurd cc;
    passed = tt;
    live = tt;
  }

  -- nothing is appended
  pub rested : {X : Type 0} (node : MemNode D G) (x : X) → node.shut ≡ None → Handles tells history health node node None (Ok x)
  rested node x running = record {
    setup = refl;
    state = refl;
    refused = tt;
    sound = λ image bytes sound.
        subst (λ (all : List (List ℕ)). IsSoundOn tells history health node.memory.setup node.log image all (state_of node.memory)) (sym (append-nil bytes)) sound;
    any_moment = rests node None;
    down = λ e. absurd cc;
    full = λ e. absurd cc;
    full_when = λ shut none. absurd (none tt);
    no_memory = λ e. absurd cc;
    causes = tt;
    running = running;
    closes = (λ e. absurd cc, λ e. absurd cc);
    still = λ speaks. speaks.0;
    full_log = λ e. absurd cc;
    passed = no_calls (health node.log.disk);
    live = tt;
  }

  -- the log refused the entry
  pub log_refused : {X : Type 0} (before now : MemNode D G) (e : Entry) (fault : LogFault) → now.memory.setup ≡ before.memory.setup
      → state_of now.memory ≡ state_of before.memory → now.shut ≡ shut_by fault → before.shut ≡ None
      → IsAppendFault fault
      → Moments before now (Some e)
      → (fault ≡ log.Failed → Fell 4 (health before.log.disk) (health now.log.disk))
      → (fault ≡ log.Full → 2 ^ 32 ≤ end_of before.log + 5 + length (entry_spelling e))
      → (2 ^ 32 ≤ end_of before.log + 5 + length (entry_spelling e) → fault ≡ log.Full)
      → (fault ≡ log.Failed) ⊎ (now.log ≡ before.log)
      → (Speaks tells health before.log.disk → tells now.log.disk)
      → Handles {X = X} tells history health before now (Some e) (Err (node_fault fault))
  log_refused before now e log.Failed setup state shut was kind moments failed full full_when same still = record {
    setup = setup;
    state = tt;
    refused = state;
    sound = tt;
    any_moment = moments;
    down = λ is. inr (failed refl);
    full = λ is. absurd cc;
    full_when = λ running none. let is = full_when (omega arith) in absurd cc;
    no_memory = λ is. absurd cc;
    causes = tt;
    running = tt;
    closes = (λ is. shut, λ is. absurd cc);
    still = still;
    full_log = λ is. absurd cc;
    passed = tt;
    live = tt;
  }
  log_refused before now e log.Full setup state shut was kind moments failed full full_when same still = record {
    setup = setup;
    state = tt;
    refused = state;
    sound = tt;
    any_moment = moments;
    down = λ is. absurd cc;
    full = λ is. inr (λ room. let past = full refl in omega arith);
    full_when = λ running none. inl refl;
    no_memory = λ is. absurd cc;
    causes = tt;
    running = tt;
    closes = (λ is. absurd cc, λ is. shut);
    still = still;
    full_log = λ is. elim same [ inl f ↦ absurd cc | inr s ↦ s ];
    passed = tt;
    live = tt;
  }
  log_refused before now e (log.Damaged at) setup state shut was kind moments failed full full_when same still = absurd kind
  log_refused before now e log.NoMemory setup state shut was kind moments failed full full_when same still = record {
    setup = setup;
    state = tt;
    refused = state;
    sound = tt;
    any_moment = moments;
    down = λ is. absurd cc;
    full = λ is. absurd cc;
    full_when = λ running none. inr refl;
    no_memory = λ is. (elim same [ inl f ↦ absurd cc | inr s ↦ s ], shut ∙ sym was);
    causes = tt;
    running = tt;
    closes = (λ is. absurd cc, λ is. absurd cc);
    still = still;
    full_log = λ is. absurd cc;
    passed = tt;
    live = tt;
  }

  -- the log took the entry
  pub log_took : {X : Type 0} (before now : MemNode D G) (e : Entry) (x : X) → now.memory.setup ≡ before.memory.setup
      → state_of now.memory ≡ after_entry (state_of before.memory) e → now.shut ≡ None
      → ((image : List ℕ) (bytes : List (List ℕ)) → Sound before image bytes
      → IsSoundOn tells history health before.memory.setup now.log image (bytes ++ entry_spelling e ∷ []) (after_entry (state_of before.memory) e))
      → Moments before now (Some e)
      → (2 ^ 32 ≤ end_of before.log + 5 + length (entry_spelling e) → ⊥)
      → (Speaks tells health before.log.disk → tells now.log.disk) → Passed 4 (health before.log.disk) (health now.log.disk) → IsLive 4 (health before.log.disk)
      → Handles tells history health before now (Some e) (Ok x)
  log_took before now e x setup state running sound moments room still passed live = record {
    setup = setup;
    state = state;
    refused = tt;
    sound = λ image bytes was.
        subst (λ (s : Setup). IsSoundOn tells history health s now.log image (bytes ++ entry_spelling e ∷ []) (state_of now.memory)) (sym setup)
        (subst (λ (t : State). IsSoundOn tells history health before.memory.setup now.log image (bytes ++ entry_spelling e ∷ []) t) (sym state) (sound image bytes was));
    any_moment = moments;
    down = λ is. absurd cc;
    full = λ is. absurd cc;
    full_when = λ open_ none. absurd (room (omega arith));
    no_memory = λ is. absurd cc;
    causes = tt;
    running = running;
    closes = (λ is. absurd cc, λ is. absurd cc);
    still = still;
    full_log = λ is. absurd cc;
    passed = passed;
    live = live;
  }

  -- it was shut before
  pub still_shut : {X : Type 0} (node : MemNode D G) (entry : Option Entry) (shut : Shut) → node.shut ≡ Some shut
      → Handles {X = X} tells history health node node entry (Err (shut_fault shut))
  still_shut node entry shut.Down was = record {
    setup = refl;
    state = tt;
    refused = refl;
    sound = tt;
    any_moment = rests node entry;
    down = λ is. inl was;
    full = λ is. absurd cc;
    full_when = λ running none. absurd (some_not_none node.shut shut.Down was running);
    no_memory = λ is. absurd cc;
    causes = tt;
    running = tt;
    closes = (λ is. was, λ is. absurd cc);
    still = λ speaks. speaks.0;
    full_log = λ is. refl;
    passed = tt;
    live = tt;
  }
  still_shut node entry shut.Full was = record {
    setup = refl;
    state = tt;
    refused = refl;
    sound = tt;
    any_moment = rests node entry;
    down = λ is. absurd cc;
    full = λ is. inl was;
    full_when = λ running none. absurd (some_not_none node.shut shut.Full was running);
    no_memory = λ is. absurd cc;
    causes = tt;
    running = tt;
    closes = (λ is. absurd cc, λ is. was);
    still = λ speaks. speaks.0;
    full_log = λ is. refl;
    passed = tt;
    live = tt;
  }
