use Rattle.std.proofs.Common.{◌≡◌, ℕ, ◌+◌, ◌*◌, false, cond, List, [], ◌∷◌, ◌++◌, length, sym, ap, ◌∙◌, append_assoc}
use Rattle.sfs_xdr.specs.Items.{words}
use Rattle.rpc_msg.specs.declared.cred.Cred.{Cred}
use Rattle.rpc_msg.specs.Messages.{unix_words, cred_words, is_nobody}
use Rattle.rpc_msg.proofs.calling.write_cred.Goals as goal

-- the flavor and the length, and then the body, are the whole
in_two : (cred : Cred) (old mid new : List ℕ) (n : ℕ) → is_nobody cred ≡ false → n ≡ length cred.gids → mid ≡ old ++ words (1 ∷ (20 + 4 * n) ∷ [])
    → new ≡ mid ++ words (unix_words cred) → new ≡ old ++ words (cred_words cred)
in_two cred old mid new n somebody count first second =
    second ∙ ap (λ (m : List ℕ). m ++ words (unix_words cred)) first ∙ append_assoc old (words (1 ∷ (20 + 4 * n) ∷ [])) (words (unix_words cred))
    ∙ ap (λ (k : ℕ). old ++ words (1 ∷ (20 + 4 * k) ∷ unix_words cred)) count
    ∙ ap (λ b. old ++ words (cond b (0 ∷ 0 ∷ []) (1 ∷ (20 + 4 * length cred.gids) ∷ unix_words cred))) (sym somebody)

pub returns : goal.returns
returns c =
    in_two c.args.cred.now c.args.writer.now c.write_words-2.new.writer c.write.new.writer c.len.result (sym c.is_nobody.ensures ∙ c.if-is_nobody.false) c.len.ensures
    (c.in_ok-write_words.ensures {u = tt}) (c.in_ok-write.ensures {u = tt})
