-- What a plan promises.
use Rattle.std.specs.Prelude.{◌≡◌, ◌≢◌, ℕ, ◌%◌, ◌==◌, true, false, IsTrue, List, [], ◌++◌, slice_get, All, Option, Some, None}
use Rattle.std.specs.List.{list_any}
use Rattle.std.specs.FinMap as table
use Rattle.rpc_msg.specs.declared.cred.Cred.{Cred}
use Rattle.nfs_proto.specs.declared.answer.Answer.TheVariants.{Fault}
use Rattle.nfs_proto.specs.declared.call.Call.{Call}
use Rattle.nfs_proto.specs.declared.stamp.Stamp.{Stamp}
use Rattle.fs_rules.specs.declared.plain_tree.PlainTree.{PlainTree}
use Rattle.fs_rules.specs.Respond.{Responded, respond}
use Rattle.mini_tx.specs.declared.item.Item.{Item}
use Rattle.mini_tx.specs.Minitransactions.{is_write}
use Rattle.mini_tx.specs.FlatMemory.{Flat, Matches, after, held_by, bytes_at, reads}
use Rattle.fs_image.specs.Owners.{Owners}
use Rattle.fs_image.specs.Stands.{Stands}
use Rattle.node_cache.specs.declared.entry.Entry.{Entry}
use Rattle.node_cache.specs.declared.held.Held.{Held}
use Rattle.node_cache.specs.Truth.{IsOwn}
use Rattle.plan_rules.specs.Compared.{compares}
use Rattle.plan_rules.specs.Fetched.{AreReads, is_read}
use Rattle.plan_rules.specs.Matched.{AreTrue}
use Rattle.plan_rules.specs.Orders.{order, looked_at, wanted}
use Rattle.plan_rules.specs.Steps.{refusal_in}
use Rattle.plan_rules.specs.Works.{IsWorkSet}
use Rattle.plan_forms.specs.declared.form.AnswerForm.{AnswerForm}
use Rattle.plan_forms.specs.declared.form.AnswerForm.TheVariants.{Ready}
use Rattle.plan_forms.specs.declared.plan.Plan.{Plan}
use Rattle.plan_forms.specs.declared.plan.Plan.TheVariants.{Need, Final}
use Rattle.plan_forms.specs.declared.plan.Reading.{Reading}
use Rattle.plan_forms.specs.Forms.{AreReadsFor, said}
use Rattle.read_laws.specs.Laws.{AnswersAs, IsPlannedOver}

-- ---- what a final does to a flat memory

-- a final does what the rules say of a tree: it answers as they do with what it reads, leaves a memory that stands for the tree
-- that they leave, writes just where they change the tree, and tells the file that is made and the files that differ
pub record Does (flat : Flat) (t : PlainTree) (r : Responded) (mini : List Item) (form : AnswerForm) (made : Option (ℕ × ℕ)) (changed : List ℕ) : Type 0 where
  pub answer : said form (reads mini flat) ≡ r.answer
  pub stands : Stands (after mini flat) r.tree
  pub writes : list_any is_write mini ≡ true → r.tree ≢ t
  pub writes_nothing : list_any is_write mini ≡ false → r.tree ≡ t
  pub made_is : made ≡ r.made
  pub differ : (n : ℕ) → list_any (λ k. k == n) changed ≡ true → table.get r.tree.files n ≢ table.get t.files n
  pub same : (n : ℕ) → list_any (λ k. k == n) changed ≡ false → table.get r.tree.files n ≡ table.get t.files n

-- what is held is true of a flat memory that stands for a tree of the same cluster
pub record IsTrueOf (held : Held) (flat : Flat) (t : PlainTree) : Type 0 where
  pub stands : Stands flat t
  pub same : held.geometry ≡ t.geometry
  pub entries : AreTrue t.geometry flat stands.owners held

-- and is the flat memory's own
pub record IsOwnOf (held : Held) (flat : Flat) (t : PlainTree) : Type 0 where
  pub stands : Stands flat t
  pub same : held.geometry ≡ t.geometry
  pub entries : (i : ℕ) (e : Entry) → slice_get held.entries i ≡ Some e → IsOwn t.geometry flat (stands.owners.place e.number) e
  pub maps : (m : ℕ) (page : List ℕ) → slice_get held.maps m ≡ Some (Some page) → page ≡ bytes_at (held_by flat m) 4096 4096

-- where a final matches a flat memory of which all that is held is true it does what the rules say; it matches where all that is
-- held is the flat memory's own; and what is as much and as long as it reads makes its answer
pub record KeepsPromise (held : Held) (arrival : ℕ) (call : Call) (cred : Cred) (now : Stamp) (mini : List Item) (form : AnswerForm) (made : Option (ℕ × ℕ)) (changed : List ℕ) : Type 0 where
  pub does : (flat : Flat) (t : PlainTree) → IsTrueOf held flat t → Matches mini flat
      → Does flat t (respond t call cred now (arrival % t.geometry.memories)) mini form made changed
  pub matches : (flat : Flat) (t : PlainTree) → IsOwnOf held flat t → Matches mini flat
  pub fits : (rs : List (List ℕ)) → AreReads mini rs → AreReadsFor form rs

-- ---- plans

-- a plan needs just the part that the call wants next, or is final where it wants none and keeps its promise
abbrev pub IsPlan : Held → ℕ → Call → Cred → Stamp → Plan → Type 0
IsPlan held arrival call cred now (Need w) = wanted held arrival call cred ≡ Some w
IsPlan held arrival call cred now (Final mini form made changed) =
    (wanted held arrival call cred ≡ None) × KeepsPromise held arrival call cred now mini form made changed

-- ---- what a reading procedure makes

-- a reading answers a call as the rules do, over each flat memory of which what is looked at is held as it is; it only reads, and
-- what is as much and as long as it reads makes its answer
pub record AnswersCall (held : Held) (arrival : ℕ) (call : Call) (cred : Cred) (now : Stamp) (r : Reading) : Type 0 where
  pub answers : (flat : Flat) (t : PlainTree) (o : Owners) → IsPlannedOver held flat t o arrival call cred
      → AnswersAs held flat t arrival call cred now (arrival % t.geometry.memories) r
  pub reads : All (λ i. IsTrue (is_read i)) r.items
  pub fits : (rs : List (List ℕ)) → AreReads r.items rs → AreReadsFor r.form rs

-- the final of a call that reads: it compares what was looked at, and where no check fails it reads
pub record IsReadFinal (held : Held) (arrival : ℕ) (call : Call) (cred : Cred) (r : Reading) (mini : List Item) (form : AnswerForm) : Type 0 where
  pub wanted : wanted held arrival call cred ≡ None
  pub refused : (status : ℕ) → refusal_in (order held arrival call cred) ≡ Some status
      → (mini ≡ compares held (looked_at held arrival call cred)) × (form ≡ Ready (Fault status))
  pub answers : refusal_in (order held arrival call cred) ≡ None
      → (mini ≡ compares held (looked_at held arrival call cred) ++ r.items) × (form ≡ r.form)

abbrev pub ReadFinalsKeepPromise : Type 0
ReadFinalsKeepPromise = (held : Held) (arrival : ℕ) (call : Call) (cred : Cred) (now : Stamp) (r : Reading) (mini : List Item) (form : AnswerForm)
    → IsWorkSet held → AnswersCall held arrival call cred now r → IsReadFinal held arrival call cred r mini form
    → KeepsPromise held arrival call cred now mini form None []
