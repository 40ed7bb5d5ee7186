use Rattle.std.proofs.Common.{◌≡◌, Bool, [], ◌∷◌, ◌++◌, length, vec_len, sym, ap, subst, ◌∙◌, arith}
use Rattle.std.specs.Prelude.{IsTrue}
use Rattle.std.proofs.lemmas.List.{length-append}
use Rattle.fs_good.specs.Reached.{AllLead, IsReachedTo}
use Rattle.fs_good.proofs.ReachedLemmas.{reached_first, reached_next, reached_all, empty_list, none_popped}
use Rattle.fs_good.proofs.reached.lead.Goals as goal

pub loop-number-init : goal.loop-number-init
loop-number-init c =
    subst (IsReachedTo c.args.tree.now c.in_ok-unknown.unknown) (sym c.in_ok-work.ensures.items) (reached_first c.args.tree.now c.requires.ready c.in_ok-unknown.unknown c.in_ok-unknown.ensures)

pub loop-number-preserved : goal.loop-number-preserved
loop-number-preserved c =
    reached_next c.args.tree.now c.requires.ready c.loop-number.unknown c.look_into.new.unknown c.pop.new.self.items c.look_into.new.work.items c.in-Some.number
    (subst (IsReachedTo c.args.tree.now c.loop-number.unknown) c.in-Some.ensures.items c.loop-number.invariant) c.in_ok-look_into.ensures

pub loop-number-smaller : goal.loop-number-smaller
loop-number-smaller c =
    let sized = c.in_ok-look_into.ensures.sized in
    let popped : length c.loop-number.work.items ≡ length (c.pop.new.self.items ++ c.in-Some.number ∷ []) = ap length c.in-Some.ensures.items in
    omega (arith, sized, popped, length-append c.pop.new.self.items (c.in-Some.number ∷ []))

pub returns : goal.returns
returns c =
    let popped = none_popped c.pop.result (vec_len c.loop-number.work) (vec_len c.pop.new.self) c.in_default.not-Some c.pop.ensures.cases in
    let none : length c.loop-number.work.items ≡ 0 = sym c.loop-number.work.ok.0 ∙ popped in
    subst (λ (b : Bool). (IsTrue b → AllLead c.args.tree.now) × (AllLead c.args.tree.now → IsTrue b)) (sym c.is_empty.ensures)
    (reached_all c.args.tree.now c.requires.ready c.loop-number.unknown
    (subst (IsReachedTo c.args.tree.now c.loop-number.unknown) (empty_list c.loop-number.work.items none) c.loop-number.invariant))
