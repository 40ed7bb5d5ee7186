use Rattle.std.proofs.Common.{◌≡◌, ℕ, List, [], ◌∷◌, ◌++◌, length, ap, ◌∙◌, append_assoc}
use Rattle.sfs_xdr.specs.Items.{words}
use Rattle.rpc_msg.specs.declared.cred.Cred.{Cred}
use Rattle.rpc_msg.specs.Messages.{unix_words}
use Rattle.rpc_msg.proofs.unix_body.UnixBodyCodec.write.Goals as goal

-- the numbers before the groups, and then the groups, are the whole
in_two : (cred : Cred) (old mid new seen : List ℕ) (n : ℕ) → n ≡ length cred.gids → seen ≡ cred.gids → mid ≡ old ++ words (0 ∷ 0 ∷ cred.uid ∷ cred.gid ∷ n ∷ [])
    → new ≡ mid ++ words seen → new ≡ old ++ words (unix_words cred)
in_two cred old mid new seen n count is first second =
    second ∙ ap (λ (m : List ℕ). m ++ words seen) first ∙ append_assoc old (words (0 ∷ 0 ∷ cred.uid ∷ cred.gid ∷ n ∷ [])) (words seen)
    ∙ ap (λ (k : ℕ). old ++ (words (0 ∷ 0 ∷ cred.uid ∷ cred.gid ∷ k ∷ []) ++ words seen)) count
    ∙ ap (λ (s : List ℕ). old ++ (words (0 ∷ 0 ∷ cred.uid ∷ cred.gid ∷ length cred.gids ∷ []) ++ words s)) is

pub returns : goal.returns
returns c =
    in_two c.args.value.now c.args.writer.now c.write_words.new.writer c.write_words-2.new.writer c.as_slice.result.now c.len-groups.result c.len-groups.ensures c.as_slice.ensures.value
    (c.in_ok-write_words.ensures {u = tt}) (c.in_ok-write_words-2.ensures {u = tt})
