-- What a judgement of a line that needs a tree says.
use Rattle.std.proofs.Common.{inl, inr, ◌≡◌, ℕ, ◌+◌, ◌-◌, ◌<◌, ◌≤◌, true, false, List, [], ◌∷◌, ◌++◌, length, drop, Option, Some, None, Result, Ok, Err, refl, sym, ap, ◌∙◌, subst, arith}
use Rattle.std.specs.Prelude.{Bool, ◌&&◌, if◌then◌else◌, slice_get, option_to_list}
use Rattle.fs_rules.specs.declared.geometry.Geometry.{Geometry}
use Rattle.fs_rules.specs.declared.plain_tree.PlainTree.{PlainTree}
use Rattle.nfs_service.specs.Reply.{Effect, heard}
use Rattle.line_text.specs.declared.line.Line.{Line}
use Rattle.line_text.specs.declared.line.Line.TheVariants as line
use Rattle.transcript_rules.specs.declared.arrival.Arrival.{Arrival}
use Rattle.transcript_rules.specs.declared.backup.Backup.{Backup}
use Rattle.transcript_rules.specs.Opening.{Opening, Schedule}
use Rattle.transcript_rules.specs.Book.{Book, numbered, with_numbered, points_of}
use Rattle.transcript_rules.specs.Next.{noted, told, listing_of}
use Rattle.transcript_rules.specs.Truth.{OwesNone, IsTrueCut}
use Rattle.transcript_rules.specs.Place.{IsUnder}
use Rattle.transcript_rules.specs.Legal.{IsAllowed}
use Rattle.transcript_facts.specs.declared.facts.Facts.{Facts}
use Rattle.transcript_facts.specs.Facts.{AreFacts}
use Rattle.transcript_judges.specs.Tests
use Rattle.transcript_judges.specs.Tests.{holds_of}
use Rattle.transcript_judges.specs.Rules.{Decides, MayPoint, MayReply, Names}
use Rattle.transcript_telling.specs.Tellings.{Notes}
use Rattle.transcript_telling.proofs.TellingLemmas.{pointed, pointed_facts, owing, owing_facts, with_owed, noted_facts}
use Rattle.transcript_trees.specs.declared.trees.Trees.{Trees}
use Rattle.transcript_trees.specs.Trees.{AreKept}
use Rattle.transcript_trees.specs.Kept.{AreReplies, AreCuts, is_reply, lines_of, with_reply, with_tree}
use Rattle.transcript_trees.proofs.KeptLemmas.{cuts_made}
use Rattle.transcript_checker.specs.declared.checker.Checker.{Checker}
use Rattle.transcript_checker.specs.Standing.{Stands, Judges}
use Rattle.transcript_checker.specs.Plain.{has_place}
use Rattle.transcript_checker.specs.Answers.{MakesChange, Changed, ReachesBeside, IsReplyOf, HasBytes}
use Rattle.transcript_checker.proofs.StandLemmas.{Keeps, keeps_line, stands_kept, under_of, taken_of, trees_of}
use Rattle.transcript_checker.proofs.JudgeLemmas.{refuted}
use Rattle.transcript_checker.proofs.TreeLineLemmas.{may_point_is, allows_point, point_allowed, point_makes, noted_point, pointed_stands, may_reply_is, allows_reply, reply_allowed, reply_is_of, cut_is, may_cut_is, may_mount_is, listing_is, under_alone, reply_decides}

module _ (o : Opening) (schedule : Schedule) (n : ℕ) (book : Book) (c : Checker) (stands : Stands o schedule n book c) (goes : book.closed ≡ false) where
  -- ---- a change

  pub came_there : (number : ℕ) (a : Arrival) → numbered book.arrivals number ≡ Some a → numbered c.facts.arrivals number ≡ Some a
  came_there number a came = ap (λ (xs : List Arrival). numbered xs number) (sym (ap (λ (b : Book). b.arrivals) stands.facts.is)) ∙ came

  pub no_point : (l : Line) (point number : ℕ) (made : Option (ℕ × ℕ)) → l ≡ line.Point point number made
      → (has_place c.facts l && holds_of (Tests.points_well c.facts point) (numbered c.facts.arrivals number)) ≡ false → IsAllowed o schedule book (line.Point point number made) → ⊥
  no_point l point number made is fails r =
      refuted _ (may_point_is o schedule book c.facts stands.facts l point number) fails
      (subst (λ (x : Line). (OwesNone book × IsUnder book x) × ((a : Arrival) × (numbered book.arrivals number ≡ Some a) × MayPoint book point a)) (sym is) (point_allowed o schedule book c.facts stands.facts point number made r))

  pub may_point : (l : Line) (point number : ℕ) (made : Option (ℕ × ℕ)) → l ≡ line.Point point number made
      → (has_place c.facts l && holds_of (Tests.points_well c.facts point) (numbered c.facts.arrivals number)) ≡ true
      → (OwesNone book × IsUnder book (line.Point point number made)) × ((a : Arrival) × (numbered book.arrivals number ≡ Some a) × MayPoint book point a)
  may_point l point number made is may =
      subst (λ (x : Line). (OwesNone book × IsUnder book x) × ((a : Arrival) × (numbered book.arrivals number ≡ Some a) × MayPoint book point a)) is
      ((may_point_is o schedule book c.facts stands.facts l point number).to may)

  pub no_change : (point number : ℕ) (made : Option (ℕ × ℕ)) (a : Arrival) (after : Trees) → numbered book.arrivals number ≡ Some a → Changed book.trees a number made after None
      → IsAllowed o schedule book (line.Point point number made) → ⊥
  no_change point number made a after came none r = let t = point_makes o schedule book c.facts stands.facts point number made a came r in none t.0 t.1 t.2

  pub point_judged : (l : Line) (point number : ℕ) (made : Option (ℕ × ℕ)) (reply : List ℕ) (f : Facts) (d : Checker) (t : (OwesNone book × IsUnder book (line.Point point number made)) × ((a : Arrival) × (numbered book.arrivals number ≡ Some a) × MayPoint book point a))
      → l ≡ line.Point point number made → Changed book.trees t.1.0 number made d.trees (Some reply) → Notes c.facts l f → ReachesBeside c.facts.arrivals number c.trees.oldest d.trees.oldest
      → d.facts ≡ f → d.geometry ≡ c.geometry → d.cuts ≡ c.cuts → d.replies ≡ with_numbered c.replies number (with_reply reply) → Judges o schedule n book (line.Point point number made) d (Ok true)
  point_judged l point number made reply f d t is changed notes beside facts geometry cuts replies =
      let a = t.1.0 in
      let came = t.1.1 in
      let may = t.1.2 in
      let e = changed.1 in
      let makes = changed.2 in
      let p = line.Point point number made in
      let noted_is = noted_point o schedule book point number made a changed.0 e came makes in
      let are : AreFacts (pointed book point number p e.tree) d.facts = rw facts (pointed_facts book c.facts f point number made e.tree stands.facts (subst (λ (x : Line). Notes c.facts x f) is notes)) in
      let same_arrivals : c.facts.arrivals ≡ book.arrivals = sym (ap (λ (b : Book). b.arrivals) stands.facts.is) in (
        allows_point o schedule book c.facts stands.facts point number made a changed.0 e goes t.0.0 t.0.1 came may makes,
        rw noted_is (pointed_stands o schedule n book c d point number p a changed.0 e made stands came may.number makes are geometry cuts
            (replies ∙ ap (λ (r : List ℕ). with_numbered c.replies number (with_reply r)) changed.3) changed.4
            (subst (λ (xs : List Arrival). ReachesBeside xs number c.trees.oldest d.trees.oldest) same_arrivals beside)),
      )

  -- ---- a reply

  may_reply_here : (l : Line) (number at : ℕ)
      → Decides (if has_place c.facts l then holds_of (λ (a : Arrival). Tests.replies_well c.geometry c.facts number at a (heard a.bytes)) (numbered c.facts.arrivals number) else false)
      ((OwesNone book × IsUnder book l) × ((a : Arrival) × (numbered book.arrivals number ≡ Some a) × MayReply o book number at a))
  may_reply_here l number at =
      subst (λ (g : Geometry). Decides (if has_place c.facts l then holds_of (λ (a : Arrival). Tests.replies_well g c.facts number at a (heard a.bytes)) (numbered c.facts.arrivals number) else false)
      ((OwesNone book × IsUnder book l) × ((a : Arrival) × (numbered book.arrivals number ≡ Some a) × MayReply o book number at a))) stands.cluster
      (may_reply_is o schedule book c.facts stands.facts l number at)

  pub no_reply : (l : Line) (number at : ℕ) (bytes : List ℕ) → l ≡ line.Reply number at bytes
      → (if has_place c.facts l then holds_of (λ (a : Arrival). Tests.replies_well c.geometry c.facts number at a (heard a.bytes)) (numbered c.facts.arrivals number) else false) ≡ false
      → IsAllowed o schedule book (line.Reply number at bytes) → ⊥
  no_reply l number at bytes is fails r =
      refuted _ (may_reply_here l number at) fails
      (subst (λ (x : Line). (OwesNone book × IsUnder book x) × ((a : Arrival) × (numbered book.arrivals number ≡ Some a) × MayReply o book number at a)) (sym is) (reply_allowed o schedule book c.facts stands.facts number at bytes r))

  pub may_reply : (l : Line) (number at : ℕ) (bytes : List ℕ) → l ≡ line.Reply number at bytes
      → (if has_place c.facts l then holds_of (λ (a : Arrival). Tests.replies_well c.geometry c.facts number at a (heard a.bytes)) (numbered c.facts.arrivals number) else false) ≡ true
      → (OwesNone book × IsUnder book (line.Reply number at bytes)) × ((a : Arrival) × (numbered book.arrivals number ≡ Some a) × MayReply o book number at a)
  may_reply l number at bytes is may =
      subst (λ (x : Line). (OwesNone book × IsUnder book x) × ((a : Arrival) × (numbered book.arrivals number ≡ Some a) × MayReply o book number at a)) is ((may_reply_here l number at).to may)

  names_within : (number at : ℕ) (a : Arrival) (p : Option ℕ) → a.point ≡ p → p ≡ None → a.ended ≡ None → numbered book.arrivals number ≡ Some a → Names (points_of book) at a.points p → (c.trees.oldest ≤ at) × (at < length book.trees)
  names_within number at a (Some p) is none runs came names = absurd (cc none)
  names_within number at a None is none runs came names =
      let low = stands.reach number a came runs is in
      let from = names.0 in
      let to = names.1 in
      let some = stands.kept.last in
      (omega (arith, low, from), omega (arith, to, some))

  -- the tree that a reply without a change names is kept
  pub within : (number at : ℕ) (a : Arrival) → numbered book.arrivals number ≡ Some a → MayReply o book number at a → a.point ≡ None → (c.trees.oldest ≤ at) × (at < length book.trees)
  within number at a came may none = names_within number at a a.point refl none may.runs came may.names

  pub other_bytes : (number at : ℕ) (bytes : List ℕ) (a : Arrival) (after : Trees) (has : Bool) → numbered book.arrivals number ≡ Some a → HasBytes book.trees a number at bytes after has → has ≡ false
      → IsAllowed o schedule book (line.Reply number at bytes) → ⊥
  other_bytes number at bytes a after has came is fails r = refuted has is.decides fails (reply_is_of o schedule book c.facts stands.facts number at bytes a came r)

  pub reply_judged : (l : Line) (number at : ℕ) (bytes : List ℕ) (has : Bool) (f : Facts) (d : Checker) (t : (OwesNone book × IsUnder book (line.Reply number at bytes)) × ((a : Arrival) × (numbered book.arrivals number ≡ Some a) × MayReply o book number at a))
      → l ≡ line.Reply number at bytes → HasBytes book.trees t.1.0 number at bytes d.trees has → has ≡ true → Notes c.facts l f → d.trees.oldest ≡ c.trees.oldest → d.facts ≡ f → d.geometry ≡ c.geometry
      → d.cuts ≡ c.cuts → d.replies ≡ c.replies → Judges o schedule n book (line.Reply number at bytes) d (Ok true)
  reply_judged l number at bytes has f d t is bytes_are yes_it notes oldest facts geometry cuts replies =
      let p = line.Reply number at bytes in (
        allows_reply o schedule book c.facts stands.facts number at bytes t.1.0 goes t.0.0 t.0.1 t.1.1 t.1.2 (bytes_are.decides.to yes_it),
        stands_kept o schedule n book (noted o schedule book p) c d stands (keeps_line o schedule book p refl)
            (rw facts (noted_facts o schedule book c.facts f p stands.facts refl (subst (λ (x : Line). Notes c.facts x f) is notes))) geometry replies cuts (bytes_are.kept yes_it) oldest,
      )

  -- ---- a cut

  pub no_cut : (l : Line) (number at : ℕ) → l ≡ line.Cut number at → (has_place c.facts l && Tests.cuts_well c.facts number at) ≡ false → IsAllowed o schedule book (line.Cut number at) → ⊥
  no_cut l number at is fails =
      refuted _ (cut_is o schedule book c.facts stands.facts number at goes) (ap (λ (x : Line). has_place c.facts x && Tests.cuts_well c.facts number at) (sym is) ∙ fails)

  cut_stands : (m p : ℕ) (tr : PlainTree) (e : Checker) (b : Backup) → p ≡ points_of book → numbered book.backups m ≡ Some b → slice_get book.trees (length book.trees - 1) ≡ Some tr
      → AreFacts (noted o schedule book (line.Cut m p)) e.facts → e.geometry ≡ c.geometry → e.trees ≡ c.trees → e.replies ≡ c.replies → e.cuts.trees.items ≡ with_numbered c.cuts.trees.items m (with_tree tr)
      → Stands o schedule (n + 1) (noted o schedule book (line.Cut m p)) e
  unfolding noted told
  cut_stands m p tr e b at_is there last are g t r cu =
      let u0 = under_of book c.facts stands.facts in
      let u1 = under_of _ e.facts are in
      let t0 = taken_of book c.facts stands.facts in
      let t1 = taken_of _ e.facts are in
      let p0 = trees_of book c.facts stands.facts in
      let p1 = trees_of _ e.facts are in
      let e1 = stands.events in
      let c1 = stands.changes in
      let x1 = stands.taken in record {
        cluster = stands.cluster ∙ sym g;
        facts = are;
        events = omega (arith, u0, u1, e1);
        changes = omega (arith, p0, p1, c1);
        taken = omega (arith, t0, t1, x1);
        posts = stands.posts;
        kept = rw t stands.kept;
        reach = rw t stands.reach;
        replies = rw r stands.replies;
        cuts = rw cu (cuts_made book.trees book.backups c.cuts.trees.items m (λ b. record b { cut = Some p }) p b tr stands.cuts (λ b. refl) there (ap (slice_get book.trees) at_is ∙ last));
      }

  pub cut_judged : (l : Line) (number at : ℕ) (tree : PlainTree) (f : Facts) (d : Checker) → l ≡ line.Cut number at → (has_place c.facts l && Tests.cuts_well c.facts number at) ≡ true
      → slice_get book.trees (length book.trees - 1) ≡ Some tree → Notes c.facts l f → d.facts ≡ f → d.geometry ≡ c.geometry → d.trees ≡ c.trees → d.replies ≡ c.replies
      → d.cuts.trees.items ≡ with_numbered c.cuts.trees.items number (with_tree tree) → Judges o schedule n book (line.Cut number at) d (Ok true)
  cut_judged l number at tree f d is may last notes facts geometry trees replies cuts =
      let p = line.Cut number at in
      let allowed = (cut_is o schedule book c.facts stands.facts number at goes).to (ap (λ (x : Line). has_place c.facts x && Tests.cuts_well c.facts number at) (sym is) ∙ may) in
      let t = allowed.true_line.1 in
      let are : AreFacts (noted o schedule book p) d.facts = rw facts (noted_facts o schedule book c.facts f p stands.facts refl (subst (λ (x : Line). Notes c.facts x f) is notes)) in
      (allowed, cut_stands number at tree d t.b t.at_is t.there last are geometry trees replies cuts)

  -- ---- listings

  noted_mounted : (number lines : ℕ) → noted o schedule book (line.Mounted number lines) ≡ owing book (line.Mounted number lines) (listing_of book number)
  unfolding noted told
  noted_mounted number lines = refl

  noted_listed : (text : List ℕ) → noted o schedule book (line.Listed text) ≡ owing book (line.Listed text) (drop 1 book.owed)
  unfolding noted told
  noted_listed text = refl

  pub no_mount : (l : Line) (number lines : ℕ) → l ≡ line.Mounted number lines → (has_place c.facts l && Tests.mounts_well c.facts number) ≡ false → IsAllowed o schedule book (line.Mounted number lines) → ⊥
  no_mount l number lines is fails r =
      refuted _ (may_mount_is o schedule book c.facts stands.facts l number) fails (subst (λ (x : Line). OwesNone book × IsUnder book x) (sym is) (r.true_line.0, r.place), r.true_line.1.mounting)

  pub other_count : (number lines count : ℕ) (listing : List (List ℕ)) → listing ≡ lines_of (numbered c.cuts.trees.items number) → count ≡ length listing → (count ≡ lines → ⊥)
      → IsAllowed o schedule book (line.Mounted number lines) → ⊥
  other_count number lines count listing is many other r =
      other (many ∙ ap length (is ∙ sym (listing_is book c.cuts.trees.items number stands.cuts)) ∙ sym r.true_line.1.many)

  pub mount_judged : (l : Line) (number lines : ℕ) (listing : List (List ℕ)) (f : Facts) (d : Checker) → l ≡ line.Mounted number lines → (has_place c.facts l && Tests.mounts_well c.facts number) ≡ true
      → listing ≡ lines_of (numbered c.cuts.trees.items number) → length listing ≡ lines → Notes c.facts l f → d.facts ≡ with_owed f listing → d.geometry ≡ c.geometry → d.trees ≡ c.trees → d.replies ≡ c.replies → d.cuts ≡ c.cuts
      → Judges o schedule n book (line.Mounted number lines) d (Ok true)
  mount_judged l number lines listing f d is may kept many notes facts geometry trees replies cuts =
      let p = line.Mounted number lines in
      let t = (may_mount_is o schedule book c.facts stands.facts l number).to may in
      let listed : listing_of book number ≡ listing = listing_is book c.cuts.trees.items number stands.cuts ∙ sym kept in
      let are : AreFacts (owing book p listing) d.facts = rw facts (owing_facts book c.facts f p listing (λ g. refl) stands.facts (subst (λ (x : Line). Notes c.facts x f) is notes)) in (
        record {
          ongoing = goes;
          true_line = (t.0.0, record { mounting = t.1; many = sym many ∙ ap length (sym listed) });
          carried = tt;
          cause = tt;
          place = subst (λ (x : Line). IsUnder book x) is t.0.1;
        },
        stands_kept o schedule n book (noted o schedule book p) c d stands (keeps_line o schedule book p refl)
            (rw (noted_mounted number lines) (rw listed are)) geometry replies cuts (rw trees stands.kept) (ap (λ (x : Trees). x.oldest) trees),
      )

  pub not_under : (l : Line) (text : List ℕ) → l ≡ line.Listed text → Tests.is_under c.facts l ≡ false → IsAllowed o schedule book (line.Listed text) → ⊥
  not_under l text is fails r = refuted _ (under_alone o schedule book c.facts stands.facts l) fails (subst (λ (x : Line). IsUnder book x) (sym is) r.place)

  -- what is owed of a listing
  owed_is : (f : Facts) (text : List ℕ) → Notes c.facts (line.Listed text) f → f.owed ≡ book.owed
  owed_is f text notes = ap (λ (x : Facts). x.owed) notes.is ∙ sym (ap (λ (b : Book). b.owed) stands.facts.is)

  pub other_text : (l : Line) (text : List ℕ) (f : Facts) (first : Option (List ℕ)) (rest : List (List ℕ)) → l ≡ line.Listed text → Notes c.facts l f → f.owed ≡ option_to_list first ++ rest → (first ≡ None → rest ≡ [])
      → is_reply text first ≡ false → IsAllowed o schedule book (line.Listed text) → ⊥
  other_text l text f first rest is notes items last fails r =
      by first (sym items ∙ owed_is f text (subst (λ (x : Line). Notes c.facts x f) is notes) ∙ r.true_line.next) last fails
    where
      by : (x : Option (List ℕ)) → option_to_list x ++ rest ≡ text ∷ r.true_line.rest → (x ≡ None → rest ≡ []) → is_reply text x ≡ false → ⊥
      by None same none test = let empty = none refl in cc (same, empty)
      by (Some y) same none test =
          let it_is : y ≡ text = cc same in
          refuted _ (reply_decides text (Some y)) test (ap Some it_is)

  pub list_judged : (l : Line) (text : List ℕ) (f : Facts) (first : Option (List ℕ)) (rest : List (List ℕ)) (d : Checker) → l ≡ line.Listed text → Tests.is_under c.facts l ≡ true → Notes c.facts l f
      → f.owed ≡ option_to_list first ++ rest → is_reply text first ≡ true → d.facts ≡ with_owed f rest → d.geometry ≡ c.geometry → d.trees ≡ c.trees → d.replies ≡ c.replies → d.cuts ≡ c.cuts
      → Judges o schedule n book (line.Listed text) d (Ok true)
  list_judged l text f first rest d is under notes items test facts geometry trees replies cuts =
      let p = line.Listed text in
      let own = subst (λ (x : Line). Notes c.facts x f) is notes in
      let first_is : first ≡ Some text = (reply_decides text first).to test in
      let owed : book.owed ≡ text ∷ rest = sym (owed_is f text own) ∙ items ∙ ap (λ (x : Option (List ℕ)). option_to_list x ++ rest) first_is in
      let are : AreFacts (owing book p rest) d.facts = rw facts (owing_facts book c.facts f p rest (λ g. refl) stands.facts own) in (
        record {
          ongoing = goes;
          true_line = record { rest = rest; next = owed };
          carried = tt;
          cause = tt;
          place = subst (λ (x : Line). IsUnder book x) is ((under_alone o schedule book c.facts stands.facts l).to under);
        },
        stands_kept o schedule n book (noted o schedule book p) c d stands (keeps_line o schedule book p refl)
            (rw (noted_listed text ∙ ap (λ (ls : List (List ℕ)). owing book p (drop 1 ls)) owed) are) geometry replies cuts (rw trees stands.kept) (ap (λ (x : Trees). x.oldest) trees),
      )

module _ (o : Opening) (schedule : Schedule) (n : ℕ) (book : Book) (c : Checker) (stands : Stands o schedule n book c) (goes : book.closed ≡ false) where
  pub replies_there : AreReplies book.trees c.facts.arrivals c.replies
  replies_there = subst (λ (xs : List Arrival). AreReplies book.trees xs c.replies) (ap (λ (b : Book). b.arrivals) stands.facts.is) stands.replies

  pub list_outcome : (l : Line) (text : List ℕ) (f : Facts) (first : Option (List ℕ)) (rest : List (List ℕ)) (d : Checker) → l ≡ line.Listed text → Tests.is_under c.facts l ≡ true → Notes c.facts l f
      → f.owed ≡ option_to_list first ++ rest → (first ≡ None → rest ≡ []) → d.facts ≡ with_owed f rest → d.geometry ≡ c.geometry → d.trees ≡ c.trees → d.replies ≡ c.replies → d.cuts ≡ c.cuts
      → (b : Bool) → is_reply text first ≡ b → Judges o schedule n book (line.Listed text) d (Ok b)
  list_outcome l text f first rest d is under notes items last facts geometry trees replies cuts true test =
      list_judged o schedule n book c stands goes l text f first rest d is under notes items test facts geometry trees replies cuts
  list_outcome l text f first rest d is under notes items last facts geometry trees replies cuts false test = other_text o schedule n book c stands goes l text f first rest is notes items last test
