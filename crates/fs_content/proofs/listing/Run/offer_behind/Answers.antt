use Rattle.std.proofs.Common.{◌≡◌, true, false, [], ◌∷◌, cond, sym, ap, ◌∙◌, arith}
use Rattle.std.specs.Prelude.{nat_lt}
use Rattle.std.proofs.lemmas.Bool.Decides.{nat_tests}
use Rattle.nfs_proto.specs.declared.dir_entry.DirEntry.{DirEntry}
use Rattle.fs_content.specs.Listing.{all_offered}
use Rattle.fs_content.proofs.ListingLemmas.{none_offered, one_offered}
use Rattle.fs_content.proofs.listing.Run.offer_behind.Goals as goal

pub returns-in_ok-offer : goal.returns-in_ok-offer
returns-in_ok-offer c =
    let e : DirEntry = record { fileid = c.args.fileid; name = c.args.name.now; cookie = c.args.cookie } in
    c.in_ok-offer.ensures ∙ sym (one_offered c.args.self.now e)
    ∙ sym (ap (λ b. all_offered c.args.self.now (cond b (e ∷ []) [])) (let is : nat_lt c.args.behind c.args.cookie ≡ true = grind (arith, nat_tests, c.if-cookie-behind.true) in is))

pub returns-else-cookie-behind : goal.returns-else-cookie-behind
returns-else-cookie-behind c =
    let e : DirEntry = record { fileid = c.args.fileid; name = c.args.name.now; cookie = c.args.cookie } in
    sym (ap (λ b. all_offered c.args.self.now (cond b (e ∷ []) [])) (let is : nat_lt c.args.behind c.args.cookie ≡ false = grind (arith, nat_tests, c.if-cookie-behind.false) in is)
    ∙ none_offered c.args.self.now)
