-- What respond is for a call that makes a file.
use Rattle.std.proofs.Common.{◌≡◌, ◌≢◌, ℕ, Bool, true, false, cond, List, [], ◌∷◌, Option, Some, None, refl, sym, ap, subst, ◌∙◌}
use Rattle.std.specs.Prelude.{IsSome, IfSome, IfNone, is_none, unwrap_or, bytes_eq, option_and_then}
use Rattle.std.specs.Option.{option_map_or}
use Rattle.std.specs.FinMap.{get, insert}
use Rattle.sfs_base.proofs.MapLemmas.{get_inserted, get_past_insert}
use Rattle.rpc_msg.specs.declared.cred.Cred.{Cred}
use Rattle.nfs_proto.specs.declared.answer.Answer.TheVariants.{Fault}
use Rattle.nfs_proto.specs.declared.call.Call.{Call}
use Rattle.nfs_proto.specs.declared.stamp.Stamp.{Stamp}
use Rattle.fs_rules.specs.declared.file.File.{File}
use Rattle.fs_rules.specs.declared.plain_tree.PlainTree.{PlainTree}
use Rattle.fs_rules.specs.Handle.{handle, number_in}
use Rattle.fs_rules.specs.File.{slots_of, parent_of}
use Rattle.fs_rules.specs.Geometry.{IsWithinLimits}
use Rattle.fs_rules.specs.Numbers.{first_free}
use Rattle.fs_rules.specs.Slots.{file_named}
use Rattle.fs_rules.specs.Statuses.{first_failure, stale, noent}
use Rattle.fs_rules.specs.Arguments.{file_of, at_file, argument_checks, is_dot, is_dot_dot, is_dots}
use Rattle.fs_rules.specs.Edits.{Edit, Changed, Made, changed_at, edited, first_made, limits}
use Rattle.fs_rules.specs.Making.{new_number}
use Rattle.fs_rules.specs.Reading.{found_at, target, lookup_answer}
use Rattle.fs_rules.specs.Respond.{Responded, own_checks, edits_of, answer_of, decided, respond, IsPick}
use Rattle.fs_laws.proofs.StatusLemmas.{passed}
use Rattle.fs_laws.proofs.EditLemmas.{within_limits}
use Rattle.std.proofs.lemmas.Bool.{or_parts}
use Rattle.fs_tree.specs.declared.response.Response.{Response}
use Rattle.fs_tree.specs.declared.response.Change.{Change}
use Rattle.fs_tree.specs.Meets.{Meets}
use Rattle.fs_decisions.specs.Steps.{refused}
use Rattle.fs_decisions.specs.Limits.{made_limits}
use Rattle.fs_tree.specs.Creating.{found_of}
use Rattle.fs_decisions.proofs.ChangeLemmas.{limit_fails, all_pass}
use Rattle.fs_tree.proofs.MakeLimitLemmas.{IsMade, limits_of_made, first_pick}

-- ---- what the limits decide

module _ (t : PlainTree) (call : Call) (cred : Cred) (now : Stamp) (start n : ℕ) (d : File) (entered made : ℕ → File) (links slots more : ℕ) (pick : Option ℕ) where
  -- the changes where the new file's number is m
  abbrev both : ℕ → List Edit
  both m = Changed n (entered m) ∷ Made m (made m) ∷ []

  -- a call that makes a file, whose checks pass
  pub record IsMaking : Type 0 where
    pub arguments : first_failure (argument_checks t call cred) ≡ None
    pub own : first_failure (own_checks t call cred) ≡ None
    pub edits : edits_of t call cred now start ≡ both (new_number t start)
    pub is : (m : ℕ) → IsMade t n d (entered m) (made m) slots more
    pub links_are : (m : ℕ) → (entered m).links ≡ links
    pub geometry : IsWithinLimits t.geometry
    pub picked : IsPick t call cred now start pick

  module _ (k : IsMaking) where
    passes : first_failure (limits t start (both (new_number t start))) ≡ None → respond t call cred now start ≡ decided None t call now (both (new_number t start))
    passes none =
        all_pass t call cred now start k.arguments k.own (ap (λ (es : List Edit). first_failure (limits t start es)) k.edits ∙ none)
        ∙ ap (λ (es : List Edit). decided None t call now es) k.edits

    first_picked : first_failure (limits t start (both (new_number t start))) ≡ None → pick ≡ first_free t start
    unfolding first_made
    first_picked none = k.picked (subst IsSome (sym (ap (λ (r : Responded). r.made) (passes none))) refl)

    one_free : first_failure (limits t start (both (new_number t start))) ≡ None → is_none (first_free t start) ≡ false
    one_free none = (within_limits t start (both (new_number t start)) (passed (limits t start (both (new_number t start))) none)).free

    limits_are : first_failure (limits t start (both (new_number t start))) ≡ made_limits t d links slots more pick
    limits_are =
        limits_of_made t start n (new_number t start) d (entered (new_number t start)) (made (new_number t start)) slots more pick (k.is (new_number t start))
        (λ none. first_pick t start pick k.geometry (one_free none) (first_picked none))
        ∙ ap (λ (l : ℕ). made_limits t d l slots more pick) (k.links_are (new_number t start))

    -- a limit forbids it
    pub made_refused : (status : ℕ) → made_limits t d links slots more pick ≡ Some status → respond t call cred now start ≡ refused t status
    made_refused status fails =
        limit_fails t call cred now start k.arguments k.own status (ap (λ (es : List Edit). first_failure (limits t start es)) k.edits ∙ limits_are ∙ fails)

    -- the file is made at the number that was picked
    pub made_passes : (m : ℕ) → pick ≡ Some m → made_limits t d links slots more pick ≡ None → respond t call cred now start ≡ decided None t call now (both m)
    made_passes m is none =
        let all = limits_are ∙ none in
        passes all ∙ ap (λ (o : Option ℕ). decided None t call now (both (unwrap_or o 0))) (sym (first_picked all) ∙ is)

-- ---- what is told of a file by its name

-- a directory whose handle stays
pub still_named : (t u : PlainTree) (name : List ℕ) (d d' : File) → file_of t name ≡ Some d → get t.files (number_in name) ≡ Some d → get u.files (number_in name) ≡ Some d'
    → d'.generation ≡ d.generation → file_of u name ≡ Some d'
still_named t u name d d' is there after same =
    let test : Bool → Option File = λ b. cond b (Some d') None in
    let passes : bytes_eq name (handle (number_in name) d.generation) ≡ true =
    go (bytes_eq name (handle (number_in name) d.generation))
    (sym (ap (λ (o : Option File). option_and_then (λ f. cond (bytes_eq name (handle (number_in name) f.generation)) (Some f) None) o) there) ∙ is) in
    ap (λ (o : Option File). option_and_then (λ f. cond (bytes_eq name (handle (number_in name) f.generation)) (Some f) None) o) after
    ∙ ap (λ (g : ℕ). test (bytes_eq name (handle (number_in name) g))) same ∙ ap test passes
  where
    go : (b : Bool) → cond b (Some d) None ≡ Some d → b ≡ true
    go true h = refl
    go false h = absurd cc

-- a name that is neither "." nor ".." leads to the file that it names
by_name : (n m : ℕ) (d : File) (name : List ℕ) → is_dots name ≡ false → file_named (slots_of d.content) name ≡ Some m → target n d name ≡ Some m
unfolding target
by_name n m d name plain is =
    let parts = or_parts (is_dot name) (is_dot_dot name) plain in
    ap (λ (b : Bool). cond b (Some n) (cond (is_dot_dot name) (parent_of d.content) (file_named (slots_of d.content) name))) parts.0
    ∙ ap (λ (b : Bool). cond b (parent_of d.content) (file_named (slots_of d.content) name)) parts.1 ∙ is

pub looked_up_found : (u : PlainTree) (dir name : List ℕ) (d : File) (m : ℕ) → file_of u dir ≡ Some d → is_dots name ≡ false → file_named (slots_of d.content) name ≡ Some m
    → at_file u dir (Fault stale) (λ n d. lookup_answer u n d name) ≡ found_at u m
unfolding lookup_answer
looked_up_found u dir name d m there plain is =
    ap (λ (o : Option File). option_map_or (λ f. lookup_answer u (number_in dir) f name) o (Fault stale)) there
    ∙ ap (λ (o : Option ℕ). option_map_or (found_at u) o (Fault noent)) (by_name (number_in dir) m d name plain is)

-- ---- a file that was made

module _ (now : Stamp) (t : PlainTree) (n m : ℕ) (d' f : File) where
  abbrev after : PlainTree
  after = edited now t (Changed n d' ∷ Made m f ∷ [])

  pub made_there : get after.files m ≡ Some f
  unfolding edited
  made_there = get_inserted (insert t.files n (changed_at now d')) m f m refl

  pub changed_there : n ≢ m → get after.files n ≡ Some (changed_at now d')
  unfolding edited
  changed_there other = get_past_insert (insert t.files n (changed_at now d')) m f n other ∙ get_inserted t.files n (changed_at now d') n refl

  -- what is told of it
  pub made_found : found_at after m ≡ found_of m f
  made_found = ap (λ (o : Option File). option_map_or (λ f. found_of m f) o (Fault stale)) made_there

  first_is : first_made (Changed n d' ∷ Made m f ∷ []) ≡ Some (m, f.generation)
  unfolding first_made
  first_is = refl

  pub meets_made : (new : PlainTree) (call : Call) (r : Responded) (response : Response)
      → get t.files m ≡ None → r ≡ decided None t call now (Changed n d' ∷ Made m f ∷ [])
      → answer_of after call ≡ response.answer → new ≡ after → response.change ≡ Some (record { made = Some (m, f.generation) })
      → Meets t r new response
  meets_made new call r response dead is answer tree change =
      let differs : new ≡ t → ⊥ = λ back.
      let both : ◌≡◌ {A = Option File} (Some f) None = sym made_there ∙ ap (λ (u : PlainTree). get u.files m) (sym tree ∙ back) ∙ dead in
      absurd cc in
      record {
        answer = sym answer ∙ ap (λ (r : Responded). r.answer) (sym is);
        tree = tree ∙ ap (λ (r : Responded). r.tree) (sym is);
        changed = subst (λ (o : Option Change). IfSome o (λ c. (new ≢ t) × (c.made ≡ r.made))) (sym change) (differs, sym first_is ∙ ap (λ (r : Responded). r.made) (sym is));
        unchanged = subst (λ (o : Option Change). IfNone o (new ≡ t)) (sym change) tt;
      }
