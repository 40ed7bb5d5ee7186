-- What disks may hold, as more is posted.
use Rattle.std.proofs.Common.{◌≡◌, ◌⊎◌, inl, inr, ℕ, zero, suc, List, [], ◌∷◌, ◌++◌, Option, Some, None, refl, sym, ap, subst, ◌∙◌}
use Rattle.std.specs.List.{slice_get}
use Rattle.std.proofs.lemmas.List.{append-nil}
use Rattle.disk_model.specs.Crash.{Content, Snapshot, History}
use Rattle.disk_model.specs.declared.disk.Disk.{Ghosts}
use Rattle.disk_model.specs.Health.{Health}
use Rattle.link_model.specs.Links.{numbered}
use Rattle.mini_tx.specs.declared.entry.Entry.{Entry}
use Rattle.mini_tx.specs.declared.geometry.Geometry4.{Geometry4}
use Rattle.mini_tx.specs.declared.posted.Posted.{Posted}
use Rattle.mem_rules.specs.declared.setup.Setup.{Setup}
use Rattle.mem_node.specs.Disk.{Has}
use Rattle.mem_node.specs.Node.{IsBeforeOrAfter}
use Rattle.story_rules.specs.MemoryNodes.{MemoryNode}
use Rattle.story_rules.specs.Story.{Site, Up, Down}
use Rattle.cluster_parts.specs.declared.memory_slot.MemorySlot.{MemorySlot}
use Rattle.cluster_parts.specs.Slots.{MayHold, RestsAt, entry_for, entry_with}
use Rattle.cluster_memories.specs.Memories.{AreRested, setup_for}

pub got_more : {A : Type 0} (xs ys : List A) (n : ℕ) (x : A) → slice_get xs n ≡ Some x → slice_get (xs ++ ys) n ≡ Some x
got_more [] ys n x is = absurd cc
got_more (y ∷ xs) ys zero x is = is
got_more (y ∷ xs) ys (suc n) x is = got_more xs ys n x is

pub numbered_more : (posted more : List Posted) (k : ℕ) (p : Posted) → numbered posted k ≡ Some p → numbered (posted ++ more) k ≡ Some p
numbered_more posted more zero p is = absurd cc
numbered_more posted more (suc k) p is = got_more posted more k p is

-- an entry of a message stays that of the message, and where there was no message nothing was held of it
held_more : (s : Setup) (posted more : List Posted) (n : MemoryNode) (handling : Option ℕ) (image : List ℕ) (bytes : List (List ℕ)) (content : Content)
    → IsBeforeOrAfter s image bytes (entry_for posted n handling) content → IsBeforeOrAfter s image bytes (entry_for (posted ++ more) n handling) content
held_more s posted more n None image bytes content held = held
held_more s posted more n (Some k) image bytes content held = go (numbered posted k) refl
  where
    none : IsBeforeOrAfter s image bytes None content → IsBeforeOrAfter s image bytes (entry_for (posted ++ more) n (Some k)) content
    none (inl before) = inl before
    none (inr after) = inl (subst (λ (bs : List (List ℕ)). Has s content image bs) (append-nil bytes) after)

    go : (o : Option Posted) → numbered posted k ≡ o → IsBeforeOrAfter s image bytes (entry_for (posted ++ more) n (Some k)) content
    go None is = none (subst (λ (e : Option Posted). IsBeforeOrAfter s image bytes (entry_with n e) content) is held)
    go (Some p) is =
        subst (λ (e : Option Posted). IsBeforeOrAfter s image bytes (entry_with n e) content) (is ∙ sym (numbered_more posted more k p is)) held

may_more : (s : Setup) (posted more : List Posted) (snapshot : Snapshot) (n : MemoryNode) (handling : Option ℕ) → MayHold s posted snapshot n handling → MayHold s (posted ++ more) snapshot n handling
may_more s posted more snapshot n handling may = record {
  image = may.image;
  bytes = may.bytes;
  makes = may.makes;
  left = λ content left. held_more s posted more n handling may.image may.bytes content (may.left content left);
}

-- as more is posted
pub rested_more : {D : Type 0} {G : Ghosts D} (tells : D → Type 0) (history : D → History) (health : D → Health) (g : Geometry4) (posted more : List Posted) (slots : List (MemorySlot D G))
    (sites : List Site) → AreRested tells history health g posted slots sites → AreRested tells history health g (posted ++ more) slots sites
rested_more {D = D} {G = G} tells history health g posted more slots sites rested = record {
  each = λ m slot site at there. go m slot site (rested.each m slot site at there);
}
  where
    go : (m : ℕ) (slot : MemorySlot D G) (site : Site) → RestsAt tells history health (setup_for g m) posted slot site → RestsAt tells history health (setup_for g m) (posted ++ more) slot site
    go m slot (Up n) rests = rests
    go m slot (Down n handling) rests = (rests.0, may_more (setup_for g m) posted more _ n handling rests.1)
