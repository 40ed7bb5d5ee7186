use Rattle.std.proofs.Common.{◌≡◌, ℕ, Bool, true, false, refl, List, map, length, Option, None, sym, ap, subst, ◌∙◌}
use Rattle.std.specs.List.{All}
use Rattle.mini_tx.specs.declared.entry.Entry.{Entry}
use Rattle.mini_tx.specs.declared.entry.Entry.TheVariants as entry
use Rattle.mini_tx.specs.declared.write_at.WriteAt.{WriteAt}
use Rattle.mini_tx.specs.declared.range.Range.{Range}
use Rattle.lock_table.specs.Locked.{IsFreeFor, IsWhole, IsLockedBeside}
use Rattle.lock_table.specs.Spans.{IsNonempty}
use Rattle.lock_table.specs.Table.{locks_in, HasRoom}
use Rattle.mem_rules.specs.declared.floor.Floor.{Floor}
use Rattle.mem_rules.specs.declared.kept.Kept.{Kept}
use Rattle.mem_rules.specs.Fit.{IsWriteInside, IsFit, size_of}
use Rattle.mem_rules.specs.Items.{written}
use Rattle.mem_rules.specs.State.{state_with, begun_with, filled_with, after_entry, raise, placed_in, kept_of, writes_kept, decided}
use Rattle.mini_tx.specs.declared.tx_id.TxId.{TxId}
use Rattle.mini_tx.specs.declared.vote.Vote.{Vote}
use Rattle.std.specs.Prelude.{Box, box_value}
use Rattle.std.specs.declared.alloc.Global.{Global}
use Rattle.mem_rules.specs.declared.room.Room.{Room}
use Rattle.mem_rules.specs.declared.room.Room.TheVariants.{Record}
use Rattle.mem_rules.specs.Index.{IsIndexed}
use Rattle.mem_rules.specs.Memory.{state_of, IsBegunWith, IsRoomFor}
use Rattle.mem_rules.specs.Records.{records_in}
use Rattle.mem_rules.proofs.GoodLemmas.{good_now, writes_inside}
use Rattle.mem_rules.proofs.HolderLemmas.{inside_nonempty, kept_nonempty}
use Rattle.mem_rules.proofs.IndexLemmas.{indexed_placed, indexed_decided, indexed_forgotten, free_of_records, record_is_whole}
use Rattle.mem_rules.proofs.memory.Memory.settle.Goals as goal

-- the place of a record has what it is begun with
begun_in : (id : TxId) (v : Vote) (room : Room) (b : Box Kept Global) → room ≡ Record b → IsBegunWith id v room → box_value b ≡ begun_with id v
begun_in id v room b is begun = subst (λ (r : Room). IsBegunWith id v r) is begun

pub invariant_of-self : goal.invariant_of-self
invariant_of-self c =
    let own = c.args.self.now in
    record {
      good = good_now own.setup (state_of own) _ c.args.entry own.good c.requires.fit
          (ap (λ (f : List (Option Floor)). state_with f (records_in own.kept) own.cut c.write_all.new.self) c.raise.ensures
          ∙ ap (λ (i : List ℕ). state_with (raise own.floors.items c.in-Single.id c.in-Single.vote) (records_in own.kept) own.cut i)
          (c.write_all.ensures ∙ ap (λ (ws : List WriteAt). written own.image ws) c.as_slice.ensures.value)
          ∙ sym (ap (after_entry (state_of own)) c.in-Single.is));
      valid = own.valid;
      indexed = own.indexed;
    }

pub invariant_of-self-in-Prepared : goal.invariant_of-self-in-Prepared
invariant_of-self-in-Prepared c =
    let own = c.args.self.now in
    let p = c.in-Prepared in
    let kept = records_in own.kept in
    let begun : box_value c.into_record.result ≡ begun_with p.id p.vote =
    begun_in p.id p.vote c.args.room c.into_record.result c.into_record.ensures (subst (λ (e : Entry). IsRoomFor own e c.args.room) p.is c.requires.room).0 in
    let placed : records_in c.keep.new.self ≡ placed_in (record { id = p.id; participants = p.participants; vote = p.vote; ranges = p.ranges; writes = p.writes; decision = None }) kept =
    c.keep.ensures ∙ ap (λ (k : Kept). placed_in k kept) (c.filled-record.ensures ∙ ap (filled_with p.participants p.ranges p.writes) begun) in
    record {
      good = good_now own.setup (state_of own) _ c.args.entry own.good c.requires.fit
          (ap (λ (f : List (Option Floor)). state_with f (records_in c.keep.new.self) own.cut own.image) c.raise-in-Prepared.ensures
          ∙ ap (λ (ks : List Kept). state_with (raise own.floors.items p.id p.vote) ks own.cut own.image) placed
          ∙ sym (ap (after_entry (state_of own)) p.is));
      valid = own.valid;
      indexed = subst (λ (ks : List Kept). IsIndexed ks (locks_in c.lock.new.self)) (sym placed)
          (indexed_placed _ kept (locks_in own.locks) (locks_in c.lock.new.self) refl own.indexed
          (subst (λ (rs : List Range). IsLockedBeside (locks_in own.locks) (locks_in c.lock.new.self) p.id rs) c.as_slice-in-Prepared.ensures.value c.lock.ensures));
    }

pub write_all-requires-then-commit : goal.write_all-requires-then-commit
write_all-requires-then-commit c =
    let own = c.args.self.now in
    let kept = writes_kept (kept_of (records_in own.kept) c.in-Decided.id) in
    subst (λ (ws : List WriteAt). All (IsWriteInside (length own.image)) ws) (sym (c.as_slice-then-commit.ensures.value ∙ c.decide-writes.ensures.writes))
    (subst (λ (n : ℕ). All (IsWriteInside n) kept) (sym own.good.image) (writes_inside own.setup (records_in own.kept) c.in-Decided.id own.good.records))

pub invariant_of-self-then-commit : goal.invariant_of-self-then-commit
invariant_of-self-then-commit c =
    let own = c.args.self.now in
    let d = c.in-Decided in
    let is : c.args.entry ≡ entry.Decided d.id true = d.is ∙ ap (entry.Decided d.id) c.if-commit.true in
    record {
      good = good_now own.setup (state_of own) _ c.args.entry own.good c.requires.fit
          (ap (λ (ks : List Kept). state_with own.floors.items ks own.cut c.write_all-then-commit.new.self) (c.decide-writes.ensures.decided ∙ ap (λ (b : Bool). map (decided d.id b) (records_in own.kept)) c.if-commit.true)
          ∙ ap (λ (i : List ℕ). state_with own.floors.items (map (decided d.id true) (records_in own.kept)) own.cut i)
          (c.write_all-then-commit.ensures ∙ ap (λ (ws : List WriteAt). written own.image ws) (c.as_slice-then-commit.ensures.value ∙ c.decide-writes.ensures.writes))
          ∙ sym (ap (after_entry (state_of own)) is));
      valid = own.valid;
      indexed = subst (λ (ks : List Kept). IsIndexed ks (locks_in c.free.new.self)) (sym c.decide-writes.ensures.decided)
          (indexed_decided d.id c.in-Decided.commit (records_in own.kept) (locks_in own.locks) (locks_in c.free.new.self) own.indexed c.free.ensures);
    }

pub invariant_of-self-else-commit : goal.invariant_of-self-else-commit
invariant_of-self-else-commit c =
    let own = c.args.self.now in
    let d = c.in-Decided in
    let is : c.args.entry ≡ entry.Decided d.id false = d.is ∙ ap (entry.Decided d.id) c.if-commit.false in
    record {
      good = good_now own.setup (state_of own) _ c.args.entry own.good c.requires.fit
          (ap (λ (ks : List Kept). state_with own.floors.items ks own.cut own.image) (c.decide-writes.ensures.decided ∙ ap (λ (b : Bool). map (decided d.id b) (records_in own.kept)) c.if-commit.false)
          ∙ sym (ap (after_entry (state_of own)) is));
      valid = own.valid;
      indexed = subst (λ (ks : List Kept). IsIndexed ks (locks_in c.free.new.self)) (sym c.decide-writes.ensures.decided)
          (indexed_decided d.id c.in-Decided.commit (records_in own.kept) (locks_in own.locks) (locks_in c.free.new.self) own.indexed c.free.ensures);
    }

pub invariant_of-self-in-Forgotten : goal.invariant_of-self-in-Forgotten
invariant_of-self-in-Forgotten c =
    let own = c.args.self.now in
    record {
      good = good_now own.setup (state_of own) _ c.args.entry own.good c.requires.fit
          (ap (λ (ks : List Kept). state_with own.floors.items ks own.cut own.image) c.forget.ensures ∙ sym (ap (after_entry (state_of own)) c.in-Forgotten.is));
      valid = own.valid;
      indexed = subst (λ (ks : List Kept). IsIndexed ks (locks_in own.locks)) (sym c.forget.ensures)
          (indexed_forgotten c.in-Forgotten.id (records_in own.kept) (locks_in own.locks) own.good.ascending
          (subst (λ (e : Entry). IsFit own.setup (state_of own) e) c.in-Forgotten.is c.requires.fit).1 own.indexed);
    }

pub lock-requires-clause-some : goal.lock-requires-clause-some
lock-requires-clause-some c =
    let own = c.args.self.now in
    let p = c.in-Prepared in
    let fit = subst (λ (e : Entry). IsFit own.setup (state_of own) e) p.is c.requires.fit in
    subst (λ (rs : List Range). All IsNonempty rs) (sym c.as_slice-in-Prepared.ensures.value) (inside_nonempty (size_of own.setup) p.ranges fit.inside)

pub lock-requires-clause-free : goal.lock-requires-clause-free
lock-requires-clause-free c =
    let own = c.args.self.now in
    let p = c.in-Prepared in
    let fit = subst (λ (e : Entry). IsFit own.setup (state_of own) e) p.is c.requires.fit in
    subst (λ (rs : List Range). IsFreeFor (locks_in own.locks) p.id rs) (sym c.as_slice-in-Prepared.ensures.value)
    (free_of_records p.ranges (records_in own.kept) (locks_in own.locks) p.id own.indexed fit.free)

pub lock-requires-clause-room : goal.lock-requires-clause-room
lock-requires-clause-room c =
    let own = c.args.self.now in
    let p = c.in-Prepared in
    subst (λ (rs : List Range). HasRoom own.locks (length rs)) (sym c.as_slice-in-Prepared.ensures.value)
    (subst (λ (e : Entry). IsRoomFor own e c.args.room) p.is c.requires.room).2

pub free-requires-clause-some : goal.free-requires-clause-some
free-requires-clause-some c =
    let own = c.args.self.now in
    subst (λ (rs : List Range). All IsNonempty rs) (sym c.ranges_of.ensures)
    (kept_nonempty own.setup (records_in own.kept) c.in-Decided.id own.good.records)

pub free-requires-clause-free : goal.free-requires-clause-free
free-requires-clause-free c =
    let own = c.args.self.now in
    let id = c.in-Decided.id in
    let known = (subst (λ (e : Entry). IsFit own.setup (state_of own) e) c.in-Decided.is c.requires.fit).1 in
    subst (λ (rs : List Range). IsFreeFor (locks_in own.locks) id rs) (sym c.ranges_of.ensures)
    (record_is_whole id (records_in own.kept) (locks_in own.locks) own.indexed own.good.ascending own.good.apart known).0

pub free-requires-clause-whole : goal.free-requires-clause-whole
free-requires-clause-whole c =
    let own = c.args.self.now in
    let id = c.in-Decided.id in
    let known = (subst (λ (e : Entry). IsFit own.setup (state_of own) e) c.in-Decided.is c.requires.fit).1 in
    subst (λ (rs : List Range). IsWhole (locks_in own.locks) id rs) (sym c.ranges_of.ensures)
    (record_is_whole id (records_in own.kept) (locks_in own.locks) own.indexed own.good.ascending own.good.apart known).1
