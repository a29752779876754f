-- A turn of the loop that puts the lines of an object on a page, and its end.
use Rattle.std.proofs.Common.{◌≡◌, ℕ, ◌<◌, true, false, Option, List, [], ◌∷◌, ◌++◌, length, take, drop, sym, ap, ◌∙◌}
use Rattle.std.{proofs.{Common.{append_assoc, arith}, lemmas.Bool.{eqb-true, eqb-false}}, specs.Prelude.{◌==◌, min}}
use Rattle.dirdoc_grammar.specs.Bodies.{base64_of, begin_line, body_text, end_line, object_text}
use Rattle.dirdoc_grammar.proofs.BodyLines.{body_text_more, body_text-nil}
use Rattle.text_page.{specs.Pages.{Sheet, with_text}, proofs.Pages.{also, with_text-joined, with_text-nothing}}

pub one_turn : (bytes line others : List ℕ) (out new whole : Option Sheet) (n : ℕ) → (length bytes == 0) ≡ false
    → n ≡ min (length bytes) 48 → line ≡ take n bytes → others ≡ drop n bytes
    → new ≡ with_text out (base64_of line ++ 10 ∷ []) → with_text out (body_text bytes) ≡ whole
    → with_text new (body_text others) ≡ whole
one_turn bytes line others out new whole n test e front back put before =
    let some : 0 < length bytes = omega (arith, eqb-false (length bytes) 0 test) in
    let more : body_text bytes ≡ base64_of line ++ 10 ∷ body_text others =
    rw (front, back, e) (body_text_more bytes some) in
    ap (λ (page : Option Sheet). with_text page (body_text others)) put
    ∙ with_text-joined out (base64_of line ++ 10 ∷ []) (body_text others)
    ∙ ap (λ (l : List ℕ). with_text out l)
    (append_assoc (base64_of line) (10 ∷ []) (body_text others) ∙ sym more)
    ∙ before

pub after_lines : (bytes : List ℕ) (out whole : Option Sheet) → (length bytes == 0) ≡ true
    → with_text out (body_text bytes) ≡ whole → out ≡ whole
after_lines [] out whole none before =
    sym (ap (λ (l : List ℕ). with_text out l) body_text-nil ∙ with_text-nothing out) ∙ before
after_lines (b ∷ bytes) out whole none before = absurd (omega (arith, eqb-true (length (b ∷ bytes)) 0 none))

-- the parts of an object are put there one after the other
pub parts_put : (start first second last : Option Sheet) (words bytes : List ℕ)
    → first ≡ with_text start (begin_line words ++ 10 ∷ []) → second ≡ with_text first (body_text bytes)
    → last ≡ with_text second (end_line words ++ 10 ∷ []) → last ≡ with_text start (object_text words bytes)
parts_put start first second last words bytes a b c =
    let begin = begin_line words in
    let end = end_line words ++ 10 ∷ [] in
    also start first last (begin ++ 10 ∷ []) (body_text bytes ++ end) a
    (also first second last (body_text bytes) end b c)
    ∙ ap (λ (l : List ℕ). with_text start l)
    (append_assoc begin (10 ∷ []) (body_text bytes ++ end)
    ∙ ap (λ (l : List ℕ). begin ++ 10 ∷ l) (sym (append_assoc (body_text bytes) (end_line words) (10 ∷ []))))
