-- Why bytes are no whole response.
use Rattle.std.proofs.Common.{◌≡◌, ℕ, ◌<◌, Bool, true, false, List, length, drop, ap, sym, subst, ◌∙◌, map, arith}
use Rattle.std.{proofs.Common.rules, specs.List.list_any}
use Rattle.httparse.specs.{Grammar.{ResponseHead, print_response}, Spans.name_and_value}
use Rattle.httparse.proofs.GrammarLemmas.{response_unique}
use Rattle.dir_http.specs.declared.{length.Announcement.Announcement, answer_front.AnswerParts.AnswerParts}
use Rattle.dir_http.specs.{Heads.{head_limit, announcement, length_values, is_coding}, Fronts.AreAnswerPartsOf}
use Rattle.dir_http.specs.Responses.{FitsLength, IsNoResponse}

-- the one head that stands there is too long
pub too_long_answer : (bytes : List ℕ) (parts : AnswerParts) (head : ResponseHead)
    → AreAnswerPartsOf bytes parts head → head_limit < parts.len
    → IsNoResponse bytes
too_long_answer bytes parts head are long other body whole =
    let same = response_unique bytes head other (drop parts.len bytes) body are.reads whole.reads in
    omega (arith, long, are.len, ap (λ (h : ResponseHead). length (print_response h)) same.0, whole.size)

-- the one head that stands there says that the body is coded
pub coded_answer : (bytes : List ℕ) (parts : AnswerParts) (head : ResponseHead)
    → AreAnswerPartsOf bytes parts head → parts.coded ≡ true → IsNoResponse bytes
coded_answer bytes parts head are coded other body whole =
    let same = response_unique bytes head other (drop parts.len bytes) body are.reads whole.reads in
    let both : true ≡ false =
    sym coded ∙ are.coded ∙ ap (λ (h : ResponseHead). list_any is_coding (map name_and_value h.fields)) same.0
    ∙ whole.plain in
    absurd (search rules)

-- the one head that stands there announces another length
pub other_length : (bytes : List ℕ) (parts : AnswerParts) (head : ResponseHead) (count : ℕ)
    → AreAnswerPartsOf bytes parts head
    → length (drop parts.len bytes) ≡ count → ¬ (FitsLength parts.announcement count) → IsNoResponse bytes
other_length bytes parts head count are is not other body whole =
    let same = response_unique bytes head other (drop parts.len bytes) body are.reads whole.reads in
    let said : announcement (length_values (map name_and_value other.fields)) ≡ parts.announcement =
    ap (λ (h : ResponseHead). announcement (length_values (map name_and_value h.fields))) (sym same.0)
    ∙ sym are.announcement in
    let as_long : length body ≡ count = ap (λ (l : List ℕ). length l) (sym same.1) ∙ is in
    not (subst (λ (a : Announcement). FitsLength a count) said
    (subst (λ (n : ℕ). FitsLength (announcement (length_values (map name_and_value other.fields))) n) as_long
    whole.fits))
