-- What is kept beside arrivals and backups, where a line more stands.
use Rattle.std.proofs.Common.{inl, inr, ◌≡◌, ℕ, zero, suc, ◌+◌, ◌-◌, ◌<◌, ◌≤◌, List, [], ◌∷◌, ◌++◌, length, Option, None, Some, refl, sym, ap, ◌∙◌, subst, arith, length-append}
use Rattle.std.specs.Prelude.{slice_get, ◌⊎◌, Bool, true, false, ◌==◌}
use Rattle.std.proofs.lemmas.Bool.{eqb-true, eq-eqb}
use Rattle.fs_rules.specs.declared.plain_tree.PlainTree.{PlainTree}
use Rattle.nfs_service.specs.Reply.{Effect, heard, effect}
use Rattle.transcript_rules.specs.declared.arrival.Arrival.{Arrival}
use Rattle.transcript_rules.specs.declared.backup.Backup.{Backup}
use Rattle.transcript_rules.specs.Book.{numbered, with_numbered, response}
use Rattle.transcript_rules.specs.Next.{with_point}
use Rattle.transcript_book.proofs.PostLemmas.{as_many}
use Rattle.transcript_trees.specs.Kept.{IsMade, AreReplies, with_reply, IsCutAt, AreCuts, with_tree}
use Rattle.transcript_trees.proofs.PlaceLemmas.{own_place, other_place, get_more, place_more, place_last, place_one_more}

pub is_or_not : (k n : ℕ) → (k ≡ n) ⊎ (k ≡ n → ⊥)
is_or_not k n = by (k == n) refl where
  by : (b : Bool) → (k == n) ≡ b → (k ≡ n) ⊎ (k ≡ n → ⊥)
  by true e = inl (eqb-true k n e)
  by false e = inr (λ same. let yes_it = eq-eqb k n same in cc (e, yes_it))

same_some : {X : Type 0} → (o : Option X) (x y : X) → o ≡ Some x → o ≡ Some y → x ≡ y
same_some o x y a b = cc (a, b)

-- ---- replies

-- one arrival is another, but for how it ended
pub record IsLike (a b : Arrival) : Type 0 where
  pub node : b.node ≡ a.node
  pub moment : b.moment ≡ a.moment
  pub bytes : b.bytes ≡ a.bytes
  pub points : b.points ≡ a.points
  pub under : b.under ≡ a.under
  pub point : b.point ≡ a.point
  pub ended : b.ended ≡ None → a.ended ≡ None

pub record AreLike (xs ys : List Arrival) : Type 0 where
  pub many : length ys ≡ length xs
  pub each : (k : ℕ) (b : Arrival) → numbered ys k ≡ Some b → (a : Arrival) × (numbered xs k ≡ Some a) × IsLike a b

made_like : (trees : List PlainTree) (k : ℕ) (a b : Arrival) (point : ℕ) (reply : Option (Option (List ℕ))) → IsLike a b → IsMade trees k a point reply → IsMade trees k b point reply
made_like trees k a b point reply like made = record {
  tree = made.tree;
  e = made.e;
  there = made.there;
  answered = ap (λ bytes. effect made.tree (heard bytes) k b.moment) like.bytes ∙ ap (effect made.tree (heard a.bytes) k) like.moment ∙ made.answered;
  is = made.is;
}

made_more : (trees more : List PlainTree) (k : ℕ) (a : Arrival) (point : ℕ) (reply : Option (Option (List ℕ))) → IsMade trees k a point reply → IsMade (trees ++ more) k a point reply
made_more trees more k a point reply made = record {
  tree = made.tree;
  e = made.e;
  there = get_more trees more (point - 1) made.tree made.there;
  answered = made.answered;
  is = made.is;
}

pub replies_like : (trees : List PlainTree) (xs ys : List Arrival) (replies : List (Option (List ℕ))) → AreLike xs ys → AreReplies trees xs replies → AreReplies trees ys replies
replies_like trees xs ys replies like are = record {
  many = are.many ∙ sym like.many;
  each = λ k b point at is.
      let t = like.each k b at in
      made_like trees k t.0 b point (numbered replies k) t.2 (are.each k t.0 point t.1 (sym (t.2.point) ∙ is));
}

pub replies_came : (trees : List PlainTree) (xs : List Arrival) (replies : List (Option (List ℕ))) (a : Arrival) → a.point ≡ None → AreReplies trees xs replies
    → AreReplies trees (xs ++ a ∷ []) (replies ++ None ∷ [])
replies_came trees xs replies a none are = record {
  many = length-append replies (None ∷ []) ∙ ap (λ n. n + 1) are.many ∙ sym (length-append xs (a ∷ []));
  each = λ k b point at is. by k b point is (place_one_more xs a k b at);
} where
  by : (k : ℕ) (b : Arrival) (point : ℕ) → b.point ≡ Some point → (numbered xs k ≡ Some b) ⊎ ((k ≡ length xs + 1) × (b ≡ a)) → IsMade trees k b point (numbered (replies ++ None ∷ []) k)
  by k b point is (inl at) =
      let made = are.each k b point at is in record {
        tree = made.tree;
        e = made.e;
        there = made.there;
        answered = made.answered;
        is = place_more replies (None ∷ []) k (Some made.e.reply) made.is;
      }
  by k b point is (inr last) = let same = ap (λ (x : Arrival). x.point) last.1 in absurd (cc (is, same, none))

pub replies_made : (trees : List PlainTree) (xs : List Arrival) (replies : List (Option (List ℕ))) (n : ℕ) (a : Arrival) (tree : PlainTree) (e : Effect) (point : ℕ) (more : List PlainTree)
    → AreReplies trees xs replies → numbered xs n ≡ Some a → slice_get trees (length trees - 1) ≡ Some tree → response a n tree ≡ Some e → point ≡ length trees
    → AreReplies (trees ++ more) (with_numbered xs n (with_point point)) (with_numbered replies n (with_reply e.reply))
replies_made trees xs replies n a tree e point more are came last answered number = record {
  many = as_many replies n (with_reply e.reply) ∙ are.many ∙ sym (as_many xs n (with_point point));
  each = λ k b p at is. by k b p at is (is_or_not k n);
} where
  some_reply : (k : ℕ) → numbered xs k ≡ Some a → (r : Option (List ℕ)) × (numbered replies k ≡ Some r)
  some_reply zero at = absurd (cc at)
  some_reply (suc k) at = found xs replies k (sym are.many) at where
    found : (ys : List Arrival) (rs : List (Option (List ℕ))) (i : ℕ) → length ys ≡ length rs → slice_get ys i ≡ Some a → (r : Option (List ℕ)) × (slice_get rs i ≡ Some r)
    found [] rs i many at = absurd (cc at)
    found (y ∷ ys) [] i many at = absurd (omega (arith, many))
    found (y ∷ ys) (r ∷ rs) zero many at = (r, refl)
    found (y ∷ ys) (r ∷ rs) (suc i) many at = found ys rs i (omega (arith, many)) at

  own : (k : ℕ) (b : Arrival) (p : ℕ) → k ≡ n → numbered (with_numbered xs n (with_point point)) n ≡ Some b → b.point ≡ Some p
      → IsMade (trees ++ more) n b p (numbered (with_numbered replies n (with_reply e.reply)) n)
  own k b p same at is =
      let b_is : b ≡ with_point point a = same_some (numbered (with_numbered xs n (with_point point)) n) b (with_point point a) at (own_place xs n (with_point point) a came) in
      let p_is : p ≡ point = let two = ap (λ (x : Arrival). x.point) b_is in cc (two, is) in
      let before = some_reply n came in record {
        tree = tree;
        e = e;
        there = get_more trees more (p - 1) tree (ap (λ m. slice_get trees (m - 1)) (p_is ∙ number) ∙ last);
        answered = ap (λ (x : Arrival). response x n tree) b_is ∙ answered;
        is = own_place replies n (with_reply e.reply) before.0 before.1;
      }

  by : (k : ℕ) (b : Arrival) (p : ℕ) → numbered (with_numbered xs n (with_point point)) k ≡ Some b → b.point ≡ Some p → (k ≡ n) ⊎ (k ≡ n → ⊥)
      → IsMade (trees ++ more) k b p (numbered (with_numbered replies n (with_reply e.reply)) k)
  by k b p at is (inl same) =
      subst (λ (m : ℕ). IsMade (trees ++ more) m b p (numbered (with_numbered replies n (with_reply e.reply)) m)) (sym same)
      (own k b p same (subst (λ (m : ℕ). numbered (with_numbered xs n (with_point point)) m ≡ Some b) same at) is)
  by k b p at is (inr other) =
      subst (λ (r : Option (Option (List ℕ))). IsMade (trees ++ more) k b p r) (sym (other_place replies n k (with_reply e.reply) other))
      (made_more trees more k b p (numbered replies k) (are.each k b p (sym (other_place xs n k (with_point point) other) ∙ at) is))

-- ---- cuts

-- the cut of one backup is that of another
abbrev pub AreCutAlike : List Backup → List Backup → Type 0
AreCutAlike xs ys = (length ys ≡ length xs) × ((k : ℕ) (b : Backup) → numbered ys k ≡ Some b → (a : Backup) × (numbered xs k ≡ Some a) × (b.cut ≡ a.cut))

cut_more : (trees more : List PlainTree) (at : Option ℕ) (cut : Option (Option PlainTree)) → IsCutAt trees at cut → IsCutAt (trees ++ more) at cut
cut_more trees more None cut is = is
cut_more trees more (Some at) cut is = (is.0, is.1, get_more trees more at is.0 is.2)

pub cuts_more : (trees more : List PlainTree) (xs : List Backup) (cuts : List (Option PlainTree)) → AreCuts trees xs cuts → AreCuts (trees ++ more) xs cuts
cuts_more trees more xs cuts are = record { many = are.many; each = λ k b at. cut_more trees more b.cut (numbered cuts k) (are.each k b at) }

pub cuts_alike : (trees : List PlainTree) (xs ys : List Backup) (cuts : List (Option PlainTree)) → AreCutAlike xs ys → AreCuts trees xs cuts → AreCuts trees ys cuts
cuts_alike trees xs ys cuts like are = record {
  many = are.many ∙ sym like.0;
  each = λ k b at. let t = like.1 k b at in subst (λ (c : Option ℕ). IsCutAt trees c (numbered cuts k)) (sym t.2) (are.each k t.0 t.1);
}

cut_same : (trees : List PlainTree) (at : Option ℕ) (cuts more : List (Option PlainTree)) (k : ℕ) → IsCutAt trees at (numbered cuts k) → IsCutAt trees at (numbered (cuts ++ more) k)
cut_same trees None cuts more k is = place_more cuts more k None is
cut_same trees (Some at) cuts more k is = (is.0, place_more cuts more k (Some is.0) is.1, is.2)

pub cuts_begun : (trees : List PlainTree) (xs : List Backup) (cuts : List (Option PlainTree)) (b : Backup) → b.cut ≡ None → AreCuts trees xs cuts
    → AreCuts trees (xs ++ b ∷ []) (cuts ++ None ∷ [])
cuts_begun trees xs cuts x none are = record {
  many = length-append cuts (None ∷ []) ∙ ap (λ n. n + 1) are.many ∙ sym (length-append xs (x ∷ []));
  each = λ k b at. by k b (place_one_more xs x k b at);
} where
  by : (k : ℕ) (b : Backup) → (numbered xs k ≡ Some b) ⊎ ((k ≡ length xs + 1) × (b ≡ x)) → IsCutAt trees b.cut (numbered (cuts ++ None ∷ []) k)
  by k b (inl at) = cut_same trees b.cut cuts (None ∷ []) k (are.each k b at)
  by k b (inr last) =
      let no_cut : b.cut ≡ None = ap (λ (y : Backup). y.cut) last.1 ∙ none in
      let place : k ≡ length cuts + 1 = last.0 ∙ ap (λ n. n + 1) (sym are.many) in
      subst (λ (c : Option ℕ). IsCutAt trees c (numbered (cuts ++ None ∷ []) k)) (sym no_cut) (ap (numbered (cuts ++ None ∷ [])) place ∙ place_last cuts None)

pub cuts_made : (trees : List PlainTree) (xs : List Backup) (cuts : List (Option PlainTree)) (n : ℕ) (f : Backup → Backup) (at : ℕ) (x : Backup) (t : PlainTree)
    → AreCuts trees xs cuts → ((b : Backup) → (f b).cut ≡ Some at) → numbered xs n ≡ Some x → slice_get trees at ≡ Some t
    → AreCuts trees (with_numbered xs n f) (with_numbered cuts n (with_tree t))
cuts_made trees xs cuts n f at x t are cut came there = record {
  many = as_many cuts n (with_tree t) ∙ are.many ∙ sym (as_many xs n f);
  each = λ k b place. by k b place (is_or_not k n);
} where
  before : (c : Option ℕ) → IsCutAt trees c (numbered cuts n) → (y : Option PlainTree) × (numbered cuts n ≡ Some y)
  before None is = (None, is)
  before (Some p) is = (Some is.0, is.1)

  own : (b : Backup) → numbered (with_numbered xs n f) n ≡ Some b → IsCutAt trees b.cut (numbered (with_numbered cuts n (with_tree t)) n)
  own b place =
      let b_is : b ≡ f x = same_some (numbered (with_numbered xs n f) n) b (f x) place (own_place xs n f x came) in
      let cut_is : b.cut ≡ Some at = ap (λ (y : Backup). y.cut) b_is ∙ cut x in
      let y = before x.cut (are.each n x came) in
      subst (λ (c : Option ℕ). IsCutAt trees c (numbered (with_numbered cuts n (with_tree t)) n)) (sym cut_is) (t, own_place cuts n (with_tree t) y.0 y.1, there)

  by : (k : ℕ) (b : Backup) → numbered (with_numbered xs n f) k ≡ Some b → (k ≡ n) ⊎ (k ≡ n → ⊥) → IsCutAt trees b.cut (numbered (with_numbered cuts n (with_tree t)) k)
  by k b place (inl same) =
      subst (λ (m : ℕ). IsCutAt trees b.cut (numbered (with_numbered cuts n (with_tree t)) m)) (sym same)
      (own b (subst (λ (m : ℕ). numbered (with_numbered xs n f) m ≡ Some b) same place))
  by k b place (inr other) =
      subst (λ (r : Option (Option PlainTree)). IsCutAt trees b.cut r) (sym (other_place cuts n k (with_tree t) other))
      (are.each k b (sym (other_place xs n k f other) ∙ place))
