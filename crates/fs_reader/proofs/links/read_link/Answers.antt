use Rattle.std.proofs.Common.{◌≡◌, Option, Some, sym, ap, subst, ◌∙◌}
use Rattle.std.specs.Prelude.{unwrap_or, IfSome}
use Rattle.std.specs.Result.{result_ok}
use Rattle.std.proofs.lemmas.Option.{none-some}
use Rattle.std.proofs.lemmas.Result.{err_from_is_err_and}
use Rattle.fs_reader.proofs.LinkLemmas.{link_read, none_there, not_marked, no_link, not_referred}
use Rattle.fs_reader.proofs.links.read_link.Goals as goal

some_one : {A : Type 0} (o : Option A) (a b : A) → o ≡ Some a → o ≡ Some b → a ≡ b
some_one o a b is too = ap (λ x. unwrap_or x a) (sym is ∙ too)

of_some : {A : Type 0} (P : A → Type 0) (o : Option A) (a : A) → o ≡ Some a → IfSome o P → P a
of_some P o a is holds = subst (λ x. IfSome x P) is holds

pub returns-in_err-at-clause-none : goal.returns-in_err-at-clause-none
returns-in_err-at-clause-none c =
    let p = err_from_is_err_and c.from_residual.result c.from_residual.ensures.1 in
    rw (p.1, p.2) (λ is.
    none_there c.args.geometry.now c.requires.images.limits c.args.parts.now c.args.number c.args.index c.args.from c.args.left.now c.args.content.now
    (c.ok_or.ensures.ok_part ∙ ap result_ok c.in_err-at.was))

pub returns-in_err-take-clause-none : goal.returns-in_err-take-clause-none
returns-in_err-take-clause-none c =
    let p = err_from_is_err_and c.from_residual-in_err-take.result c.from_residual-in_err-take.ensures.1 in
    rw (p.1, p.2) (λ is.
    not_marked c.args.geometry.now c.requires.images.limits c.args.parts.now c.args.number c.args.index c.args.from c.args.left.now c.args.content.now c.in_ok-at.at
    (c.ok_or.ensures.ok_part ∙ ap result_ok c.in_ok-at.was) c.in_err-take.ensures.none)

pub returns-in_err-chain-clause-none : goal.returns-in_err-chain-clause-none
returns-in_err-chain-clause-none c =
    let p = err_from_is_err_and c.from_residual-in_err-chain.result c.from_residual-in_err-chain.ensures.1 in
    rw (p.1, p.2) (λ is.
    no_link c.args.geometry.now c.requires.images.limits c.args.parts.now c.args.number c.args.index c.args.from c.args.left.now c.args.content.now c.in_ok-at.at
    (c.ok_or.ensures.ok_part ∙ ap result_ok c.in_ok-at.was)
    (λ e link. none-some e (sym (c.ok_or-2.ensures.ok_part ∙ ap result_ok c.in_err-chain.was) ∙ c.link_at.ensures.only e link)))

pub returns-in_err-read_blocks-clause-none : goal.returns-in_err-read_blocks-clause-none
returns-in_err-read_blocks-clause-none c =
    let p = err_from_is_err_and c.from_residual-in_err-read_blocks.result c.from_residual-in_err-read_blocks.ensures.1 in
    rw (p.1, p.2) (λ is.
    not_referred c.args.geometry.now c.requires.images.limits c.args.parts.now c.args.number c.args.index c.args.from c.args.left.now c.args.content.now c.in_ok-at.at
    (c.ok_or.ensures.ok_part ∙ ap result_ok c.in_ok-at.was) c.in_ok-chain.chain c.take.new.left c.in_ok-take.ensures.inside c.in_ok-take.ensures.marked c.in_ok-take.ensures.taken
    (λ e link. some_one c.link_at.result c.in_ok-chain.chain e (c.ok_or-2.ensures.ok_part ∙ ap result_ok c.in_ok-chain.was) (c.link_at.ensures.only e link))
    (c.in_err-read_blocks.ensures.none is))

pub returns-clause-ok : goal.returns-clause-ok
returns-clause-ok c =
    link_read c.args.geometry.now c.requires.images.limits c.args.parts.now c.args.number c.args.index c.args.from c.args.left.now c.args.content.now c.in_ok-at.at c.in_ok-chain.chain
    c.take.new.left c.read_blocks.new.left c.read_blocks.new.content (c.ok_or.ensures.ok_part ∙ ap result_ok c.in_ok-at.was) c.in_ok-take.ensures.inside c.in_ok-take.ensures.marked
    c.in_ok-take.ensures.taken (of_some _ c.link_at.result c.in_ok-chain.chain (c.ok_or-2.ensures.ok_part ∙ ap result_ok c.in_ok-chain.was) c.link_at.ensures.found)
    c.in_ok-read_blocks.ensures.ok
