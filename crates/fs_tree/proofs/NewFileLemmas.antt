-- A call that makes a file, where its checks pass: what the limits decide, and what is left.
use Rattle.std.proofs.Common.{◌≡◌, ℕ, ◌+◌, ◌≤◌, ◌*◌, ◌^◌, ◌<◌, true, false, cond, List, length, Option, Some, None, refl, sym, ap, ◌∙◌, arith}
use Rattle.std.specs.Option.{option_map_or}
use Rattle.std.specs.FinMap.{get}
use Rattle.rpc_msg.specs.declared.cred.Cred.{Cred}
use Rattle.nfs_proto.specs.declared.answer.Answer.TheVariants.{Plain}
use Rattle.nfs_proto.specs.declared.call.Call.{Call}
use Rattle.nfs_proto.specs.declared.stamp.Stamp.{Stamp}
use Rattle.fs_rules.specs.declared.entry.Entry.{Entry}
use Rattle.fs_rules.specs.declared.file.File.{File}
use Rattle.fs_rules.specs.declared.kept.Kept.{Kept}
use Rattle.fs_rules.specs.declared.plain_tree.PlainTree.{PlainTree}
use Rattle.fs_rules.specs.File.{used, is_directory, slots_of}
use Rattle.fs_rules.specs.Good.{IsGood}
use Rattle.fs_rules.specs.Numbers.{kept_at}
use Rattle.fs_rules.specs.Slots.{put_name}
use Rattle.fs_rules.specs.Edits.{edited}
use Rattle.fs_rules.specs.Making.{new_file}
use Rattle.fs_rules.specs.Respond.{respond, IsPick}
use Rattle.fs_tree.specs.declared.new_file.NewFile.{NewFile}
use Rattle.fs_tree.specs.declared.response.Response.{Response}
use Rattle.fs_tree.specs.Meets.{Meets}
use Rattle.fs_decisions.specs.Steps.{Fits, refused}
use Rattle.fs_decisions.specs.Limits.{made_limits, used_by}
use Rattle.fs_edits.specs.Giving.{receiving}
use Rattle.fs_tree.specs.Creating.{found_of}
use Rattle.fs_tree.specs.NewFiles.{Makes, made_with, made_edits}
use Rattle.fs_tree.proofs.MadeLemmas.{IsMaking, made_refused, made_passes, meets_made}
use Rattle.fs_tree.proofs.NewNameLemmas.{slots_with, used_with}

-- ---- the file

module _ (kept : Kept) (now : Stamp) (cred : Cred) (new : NewFile) where
  pub uses_as_much : used (made_with kept now cred new).content ≡ used new.content
  unfolding new_file
  uses_as_much = refl

  mode_few : (made_with kept now cred new).mode ≤ 0o7777
  unfolding new_file
  mode_few = omega arith

  -- what a client is told of it fits
  pub new_fits : 8 * used new.content < 2 ^ 32 → Fits (made_with kept now cred new)
  new_fits small = record { mode = mode_few; room = omega (arith, uses_as_much, small) }

-- ---- the directory

pub is_one : (t : PlainTree) (n : ℕ) (d x : File) → get t.files n ≡ Some x → is_directory x.content ≡ true → get t.files n ≡ Some d → is_directory d.content ≡ true
is_one t n d x there is live = ap (λ (o : Option File). option_map_or (λ f. is_directory f.content) o false) (sym live ∙ there) ∙ is

-- ---- the call

module _ (t : PlainTree) (call : Call) (cred : Cred) (now : Stamp) (n : ℕ) (d : File) (name : List ℕ) (new : NewFile) (k : Makes t call cred now n d name new) (good : IsGood t)
    (there : get t.files n ≡ Some d) (is : is_directory d.content ≡ true) (slots : ℕ)
    (slots_are : (m : ℕ) → length (put_name (slots_of d.content) (record { name = name; file = m })) ≡ slots) (start : ℕ) (pick : Option ℕ) (picked : IsPick t call cred now start pick) where
  making : IsMaking t call cred now start n d (λ m. receiving now name m (d.links + new.gained) d) (λ m. made_with (kept_at t m) now cred new) (d.links + new.gained) slots (used new.content) pick
  making = record {
    arguments = k.arguments;
    own = k.own;
    edits = k.edits start;
    is = λ m. record {
      there = there;
      change = refl;
      slots_are = ap (λ (s : List (Option Entry)). length s) (slots_with (put_name (slots_of d.content) (record { name = name; file = m })) d.content is) ∙ slots_are m;
      uses = used_with (put_name (slots_of d.content) (record { name = name; file = m })) d.content is ∙ ap used_by (slots_are m);
      file_uses = uses_as_much (kept_at t m) now cred new;
    };
    links_are = λ m. refl;
    geometry = good.geometry;
    picked = picked;
  }

  -- a limit forbids it
  pub new_limited : (status : ℕ) → made_limits t d (d.links + new.gained) slots (used new.content) pick ≡ Some status → respond t call cred now start ≡ refused t status
  new_limited =
      made_refused t call cred now start n d (λ m. receiving now name m (d.links + new.gained) d) (λ m. made_with (kept_at t m) now cred new) (d.links + new.gained) slots (used new.content) pick making

  -- the file is made
  pub new_meets : (m : ℕ) (left : PlainTree) (file : File) (response : Response) → get t.files m ≡ None → pick ≡ Some m
      → made_limits t d (d.links + new.gained) slots (used new.content) pick ≡ None → file ≡ made_with (kept_at t m) now cred new → left ≡ edited now t (made_edits t cred now n d name new m)
      → response.answer ≡ cond new.is_told (found_of m file) Plain → response.change ≡ Some (record { made = Some (m, file.generation) })
      → Meets t (respond t call cred now start) left response
  new_meets m left file response dead is_pick limits file_is tree answer change =
      meets_made now t n m (receiving now name m (d.links + new.gained) d) (made_with (kept_at t m) now cred new) left call (respond t call cred now start) response dead
      (made_passes t call cred now start n d (λ m. receiving now name m (d.links + new.gained) d) (λ m. made_with (kept_at t m) now cred new) (d.links + new.gained) slots (used new.content) pick making m is_pick limits)
      (k.answers m dead ∙ sym (answer ∙ ap (λ (f : File). cond new.is_told (found_of m f) Plain) file_is))
      tree
      (change ∙ ap (λ (g : File). Some (record { made = Some (m, g.generation) })) file_is)
