use Rattle.std.proofs.{Common.{◌∙◌, ◌+◌, ◌∷◌, ℕ, List, take, ap, sym}, lemmas.List.take_rest}
use Rattle.http_words.{specs.DigestLists.parts_of, proofs.Digests.first_part}
use Rattle.http_words.proofs.digest_list.split_off.Goals as goal

pub returns-then-length-text : goal.returns-then-length-text
returns-then-length-text c =
    let text = c.args.text.now in
    let n = c.part_len-length.result in
    first_part text n c.part_len-length.ensures.place c.if-length-text.true
    ∙ ap (λ (l : List ℕ). take n text ∷ parts_of l) (sym (take_rest text (n + 1)))
