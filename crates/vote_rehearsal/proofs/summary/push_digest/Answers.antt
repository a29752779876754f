use Rattle.std.proofs.Common.{rules, ◌≡◌, ℕ, List, [], ◌∷◌, ◌++◌, ap, ◌∙◌}
use Rattle.dir_bytes.specs.FieldTexts.{hex_text}
use Rattle.item_terms.specs.Bytes.{line_feed, space}
use Rattle.vote_rehearsal.{specs.Summaries.digest_line, proofs.SignedTexts.line_in_turn}
use Rattle.vote_rehearsal.proofs.summary.push_digest.Goals as goal

pub returns : goal.returns
unfolding digest_line
returns c =
    let out = c.args.out.now.items in
    let word = c.args.word.now in
    let value = hex_text c.args.bytes.now in
    let at1 = c.extend_from_slice.new.self.items in
    let at2 = c.push.new.self.items in
    let at3 = c.push_hex_upper.new.out.items in
    let at4 = c.push-2.new.self.items in
    let first : at1 ≡ out ++ word = search rules in
    let second : at2 ≡ at1 ++ space ∷ [] = search rules in
    let third : at3 ≡ at2 ++ value = search rules in
    let fourth : at4 ≡ at3 ++ line_feed ∷ [] = search rules in
    fourth ∙ ap (λ (l : List ℕ). l ++ line_feed ∷ [])
    (third ∙ ap (λ (l : List ℕ). l ++ value) (second ∙ ap (λ (l : List ℕ). l ++ space ∷ []) first))
    ∙ line_in_turn out word value
