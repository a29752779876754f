use Rattle.std.{proofs.Common.{rules, ◌≡◌, ℕ, List, [], ◌∷◌, ◌++◌, ap, ◌∙◌}, specs.Prelude.codes}
use Rattle.sha1.specs.Sha1.{sha1}
use Rattle.dir_bytes.specs.FieldTexts.{hex_text}
use Rattle.item_terms.specs.Bytes.{line_feed, space}
use Rattle.dirdoc_grammar.specs.Bodies.{object_text}
use Rattle.vote_rehearsal.{specs.Certificates.certificate_of, proofs.SignedTexts.in_turn}
use Rattle.vote_rehearsal.proofs.voting.push_signature.Goals as goal

pub returns : goal.returns
unfolding certificate_of
returns c =
    let out = c.args.out.now.items in
    let one = hex_text c.args.authority.now.identity.0 in
    let key = hex_text (sha1 c.args.authority.now.signing_key) in
    let object = object_text (codes "SIGNATURE") c.args.signature.now in
    let at1 = c.push_hex_upper.new.out.items in
    let at2 = c.push.new.self.items in
    let at3 = c.push_hex_upper-2.new.out.items in
    let at4 = c.push-2.new.self.items in
    let at5 = c.push_object.new.out.items in
    let first : at1 ≡ out ++ one = search rules in
    let second : at2 ≡ at1 ++ space ∷ [] = search rules in
    let third : at3 ≡ at2 ++ key = search rules in
    let fourth : at4 ≡ at3 ++ line_feed ∷ [] = search rules in
    let fifth : at5 ≡ at4 ++ object = search rules in
    fifth ∙ ap (λ (l : List ℕ). l ++ object) (fourth ∙ ap (λ (l : List ℕ). l ++ line_feed ∷ [])
    (third ∙ ap (λ (l : List ℕ). l ++ key) (second ∙ ap (λ (l : List ℕ). l ++ space ∷ []) first)))
    ∙ in_turn out one key object
