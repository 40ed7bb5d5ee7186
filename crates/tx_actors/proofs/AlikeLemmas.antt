-- What a memory node has after a record, after the events in which it is appended, and after events elsewhere.
use Rattle.std.proofs.Common.{◌≡◌, ℕ, ◌==◌, Bool, true, false, cond, ◌&&◌, List, [], ◌∷◌, unwrap_or, refl, sym, ap, ◌∙◌}
use Rattle.std.proofs.Math.Path.{fun_ext}
use Rattle.std.proofs.lemmas.Bool.{eq-eqb, ne_eqb}
use Rattle.tx_rules.specs.Mini.{Setting, nodes_of}
use Rattle.tx_rules.specs.Decision.{Record, Grant, Refuse, Commit, Abort, Forget, Entry, At}
use Rattle.tx_rules.specs.World.{World, Event, Begins, Grants, Completes, Refuses, Commits, Aborts, Forgets, Posts, after, after_all}
use Rattle.tx_actors.specs.Machine.{all_granted, event_of, appending}
use Rattle.tx_actors.specs.Laws.{AppendingMakes, OthersChangeNothing}
use Rattle.tx_actors.specs.Node.{View, view, own, IsAlike, after_record, after_records, IsElsewhere, AllElsewhere}

module _ (s : Setting) (m : ℕ) where
  -- ---- after a record

  same_node : (m == m) ≡ true
  same_node = eq-eqb m m refl

  own_more : (log : List Entry) (r : Record) (rs : List Record) → rs ≡ own m log → r ∷ rs ≡ own m (At m r ∷ log)
  own_more log r rs e = ap (λ xs. r ∷ xs) e ∙ ap (λ b. cond b (r ∷ own m log) (own m log)) (sym same_node)

  seen_more : (w : World) (t u a : ℕ) (x y : ℕ) → x ≡ w.image m a → y ≡ w.seen u m a → cond (u == t) x y ≡ cond ((u == t) && (m == m)) (w.image m) (w.seen u m) a
  seen_more w t u a x y first second = ap (λ z. cond (u == t) z y) first ∙ ap (cond (u == t) (w.image m a)) second ∙ go (u == t) (m == m) same_node
    where
      go : (b c : Bool) → c ≡ true → cond b (w.image m a) (w.seen u m a) ≡ cond (b && c) (w.image m) (w.seen u m) a
      go true true e = refl
      go false true e = refl
      go true false e = absurd cc
      go false false e = refl

  pick : (b : Bool) (f g : ℕ → ℕ) (a : ℕ) → cond b f g a ≡ cond b (f a) (g a)
  pick true f g a = refl
  pick false f g a = refl

  alike_after : (v : View) (w : World) (r : Record) → IsAlike v (view w m) → IsAlike (after_record s m v r) (view (after s w (event_of s w m r)) m)
  alike_after v w (Grant t) alike = go (all_granted (At m (Grant t) ∷ w.log) t (nodes_of s t))
    where
      it : IsAlike (after_record s m v (Grant t)) (view (after s w (Grants m t)) m)
      it = record {
        records = own_more w.log (Grant t) v.records alike.records;
        image = alike.image;
        seen = λ u a. pick (u == t) v.image (v.seen u) a ∙ seen_more w t u a (v.image a) (v.seen u a) (alike.image a) (alike.seen u a);
      }

      go : (b : Bool) → IsAlike (after_record s m v (Grant t)) (view (after s w (cond b (Completes m t) (Grants m t))) m)
      go true = record { records = it.records; image = it.image; seen = it.seen }
      go false = it
  alike_after v w (Commit t) alike =
      record {
        records = own_more w.log (Commit t) v.records alike.records;
        image = λ a. ap (unwrap_or ((s.mini t).writes m a)) (alike.image a) ∙ sym (ap (λ b. cond b (λ (a : ℕ). unwrap_or ((s.mini t).writes m a) (w.image m a)) (w.image m) a) same_node);
        seen = alike.seen;
      }
  alike_after v w (Refuse t why) alike = record { records = own_more w.log (Refuse t why) v.records alike.records; image = alike.image; seen = alike.seen }
  alike_after v w (Abort t) alike = record { records = own_more w.log (Abort t) v.records alike.records; image = alike.image; seen = alike.seen }
  alike_after v w (Forget t) alike = record { records = own_more w.log (Forget t) v.records alike.records; image = alike.image; seen = alike.seen }

  pub alike_after_all : (v : View) (w : World) (rs : List Record) → IsAlike v (view w m) → IsAlike (after_records s m v rs) (view (after_all s w (appending s w m rs)) m)
  alike_after_all v w [] alike = alike
  alike_after_all v w (r ∷ rs) alike = alike_after_all (after_record s m v r) (after s w (event_of s w m r)) rs (alike_after v w r alike)

  pub alike_self : (v : View) → IsAlike v v
  alike_self v = record { records = refl; image = λ a. refl; seen = λ t a. refl }

  -- ---- what happens elsewhere

  module _ (n : ℕ) (other : ¬ (n ≡ m)) where
    apart : (m == n) ≡ false
    apart = ne_eqb m n (λ e. other (sym e))

    apart_back : (n == m) ≡ false
    apart_back = ne_eqb n m other

    own_same : (log : List Entry) (r : Record) → own m log ≡ own m (At n r ∷ log)
    own_same log r = ap (λ b. cond b (r ∷ own m log) (own m log)) (sym apart_back)

    seen_same : (w : World) (t u a : ℕ) → w.seen u m a ≡ cond ((u == t) && (m == n)) (w.image m) (w.seen u m) a
    seen_same w t u a = go (u == t) (m == n) apart
      where
        go : (b c : Bool) → c ≡ false → w.seen u m a ≡ cond (b && c) (w.image m) (w.seen u m) a
        go true true e = absurd cc
        go true false e = refl
        go false c e = refl

    granted_there : (w : World) (t : ℕ) → IsAlike (view w m) (view (after s w (Grants n t)) m)
    granted_there w t = record { records = own_same w.log (Grant t); image = λ a. refl; seen = λ u a. seen_same w t u a }

    appended_there : (w : World) (r : Record) (v : View) → v.records ≡ own m (At n r ∷ w.log) → ((a : ℕ) → w.image m a ≡ v.image a) → ((u a : ℕ) → w.seen u m a ≡ v.seen u a)
        → IsAlike (view w m) v
    appended_there w r v same image seen = record { records = own_same w.log r ∙ sym same; image = image; seen = seen }

  pub alike_elsewhere : (w : World) (e : Event) → IsElsewhere m e → IsAlike (view w m) (view (after s w e) m)
  alike_elsewhere w (Begins t) other = alike_self (view w m)
  alike_elsewhere w (Grants n t) other = granted_there n other w t
  alike_elsewhere w (Completes n t) other =
      let it = granted_there n other w t in record { records = it.records; image = it.image; seen = it.seen }
  alike_elsewhere w (Refuses n t why) other = appended_there n other w (Refuse t why) (view (after s w (Refuses n t why)) m) refl (λ a. refl) (λ u a. refl)
  alike_elsewhere w (Commits n t) other =
      appended_there n other w (Commit t) (view (after s w (Commits n t)) m) refl
      (λ a. ap (λ b. cond b (λ (a : ℕ). unwrap_or ((s.mini t).writes m a) (w.image m a)) (w.image m) a) (sym (apart n other))) (λ u a. refl)
  alike_elsewhere w (Aborts n t) other = appended_there n other w (Abort t) (view (after s w (Aborts n t)) m) refl (λ a. refl) (λ u a. refl)
  alike_elsewhere w (Forgets n t) other = appended_there n other w (Forget t) (view (after s w (Forgets n t)) m) refl (λ a. refl) (λ u a. refl)
  alike_elsewhere w (Posts message) other = alike_self (view w m)

  pub alike_trans : (u v x : View) → IsAlike u v → IsAlike v x → IsAlike u x
  alike_trans u v x first second = record {
    records = first.records ∙ second.records;
    image = λ a. first.image a ∙ second.image a;
    seen = λ t a. first.seen t a ∙ second.seen t a;
  }

  pub alike_turned : (u v : View) → IsAlike u v → IsAlike v u
  alike_turned u v same = record { records = sym same.records; image = λ a. sym (same.image a); seen = λ t a. sym (same.seen t a) }

  pub all_elsewhere : (w : World) (events : List Event) → AllElsewhere m events → IsAlike (view w m) (view (after_all s w events) m)
  all_elsewhere w [] other = alike_self (view w m)
  all_elsewhere w (e ∷ events) other =
      alike_trans (view w m) (view (after s w e) m) (view (after_all s (after s w e) events) m) (alike_elsewhere w e other.0) (all_elsewhere (after s w e) events other.1)

-- what has the same is the same
pub alike_same : (v u : View) → IsAlike v u → v ≡ u
alike_same v u same =
    ap (λ (rs : List Record). let x : View = record { records = rs; image = v.image; seen = v.seen } in x) same.records
    ∙ ap (λ (f : ℕ → ℕ). let x : View = record { records = u.records; image = f; seen = v.seen } in x) (fun_ext same.image)
    ∙ ap (λ (f : ℕ → ℕ → ℕ). let x : View = record { records = u.records; image = u.image; seen = f } in x) (fun_ext (λ t. fun_ext (same.seen t)))

pub appending_makes : AppendingMakes
appending_makes s m w rs = sym (alike_same _ _ (alike_after_all s m (view w m) w rs (alike_self s m (view w m))))

pub others_change_nothing : OthersChangeNothing
others_change_nothing s m w events other = sym (alike_same _ _ (all_elsewhere s m w events other))
