-- Lines without a fault have none further on, under any limit that they do not pass.
use Rattle.std.proofs.Common.{◌≡◌, ℕ, ◌+◌, ◌-◌, ◌≤◌, min, Bool, true, false, Option, Some, None, refl, ap, ◌∙◌, arith}
use Rattle.std.{proofs.lemmas.Bool.{leb-true, le-leb, ltb-false, ltb-true}, specs.Prelude.{nat_le, nat_lt, ◌&&◌}}
use Rattle.std.specs.Prelude.{length, if◌then◌else◌}
use Rattle.item_terms.specs.declared.fault.{DocFault.DocFault, DocReason.TheVariants.{ObjectTooLong, DocumentTooLong}}
use Rattle.item_terms.specs.{declared.fault.DocReason.TheVariants.{LineTooLong, Unterminated}, Faults.{at, line_fault}}
use Rattle.item_terms.specs.Faults.{max_line, max_object, nul_fault, object_line_fault, or_else, too_long}
use Rattle.item_terms.specs.{Faults.unterminated_fault, Lines.{Line, size}, Words.nul_in}

pub none_of : (a b : Option DocFault) → or_else a b ≡ None → (a ≡ None) × (b ≡ None)
none_of None b e = (refl, e)
none_of (Some f) b e = absurd (cc e)

pub short : (limit place size_ : ℕ) → too_long limit place size_ ≡ None → size_ ≤ min (limit - place) max_line
short limit place size_ is = by (nat_le size_ (min (limit - place) max_line)) refl is
  where
    by : (t : Bool) → nat_le size_ (min (limit - place) max_line) ≡ t
        → (if t then None else Some (if nat_le (limit - place) max_line then at limit DocumentTooLong else at
        (place + max_line) LineTooLong)) ≡ None
        → size_ ≤ min (limit - place) max_line
    by true e is = leb-true size_ (min (limit - place) max_line) e
    by false e is = absurd (cc is)

not_long : (limit place size_ : ℕ) → size_ ≤ min (limit - place) max_line → too_long limit place size_ ≡ None
not_long limit place size_ fits =
    ap (λ (t : Bool). if t then None else Some
    (if nat_le (limit - place) max_line then at limit DocumentTooLong else at (place + max_line) LineTooLong))
    (le-leb size_ (min (limit - place) max_line) fits)

ended_too : (place other : ℕ) (line : Line) → unterminated_fault place line ≡ None → unterminated_fault other line ≡ None
ended_too place other line is = by line.ended is
  where
    by : (t : Bool) → (if t then None else Some (at (place + length line.text) Unterminated)) ≡ None
        → (if t then None else Some (at (other + length line.text) Unterminated)) ≡ None
    by true is = refl
    by false is = absurd (cc is)

no_nul_too : (place other : ℕ) (found : Option ℕ) → nul_fault place found ≡ None → nul_fault other found ≡ None
no_nul_too place other None is = refl
no_nul_too place other (Some i) is = absurd (cc is)

pub sound_moved : (limit limit' place n : ℕ) (line : Line) → line_fault limit place line ≡ None
    → place + n + size line ≤ limit' → line_fault limit' (place + n) line ≡ None
sound_moved limit limit' place n line is fits =
    let long = too_long limit place (size line) in
    let others = or_else (unterminated_fault place line) (nul_fault place (nul_in line.text)) in
    let p = none_of long others is in
    let q = none_of (unterminated_fault place line) (nul_fault place (nul_in line.text)) p.1 in
    let s = short limit place (size line) p.0 in
    let m : size line ≤ min (limit' - (place + n)) 1048576 = omega (arith, s, fits) in
    ap (λ (f : Option DocFault). or_else f
    (or_else (unterminated_fault (place + n) line) (nul_fault (place + n) (nul_in line.text))))
    (not_long limit' (place + n) (size line) m)
    ∙ ap (λ (f : Option DocFault). or_else f (nul_fault (place + n) (nul_in line.text)))
    (ended_too place (place + n) line q.0)
    ∙ no_nul_too place (place + n) (nul_in line.text) q.1

-- the same inside an object
pub object_sound_moved : (limit limit' begin place n : ℕ) (line : Line)
    → object_line_fault limit begin place line ≡ None
    → place + n + size line ≤ limit' → object_line_fault limit' (begin + n) (place + n) line ≡ None
object_sound_moved limit limit' begin place n line is fits =
    let room = max_object - (place - begin) in
    by (nat_lt room (min (limit - place) max_line)) (nat_lt room (size line)) refl refl is
  where
    never : (t : Bool) → (if t && false then Some (at (begin + n) ObjectTooLong) else line_fault limit'
        (place + n) line)
        ≡ line_fault limit' (place + n) line
    never true = refl
    never false = refl

    small : nat_lt (max_object - (place - begin)) (size line) ≡ false → line_fault limit place line ≡ None
        → object_line_fault limit' (begin + n) (place + n) line ≡ None
    small eb is =
        let same : max_object - (place + n - (begin + n)) ≡ max_object - (place - begin) = omega arith in
        let big : nat_lt (max_object - (place + n - (begin + n))) (size line) ≡ false =
        ap (λ (k : ℕ). nat_lt k (size line)) same ∙ eb in
        ap (λ (t : Bool). if nat_lt (max_object - (place + n - (begin + n))) (min (limit' - (place + n)) max_line) && t
        then Some (at (begin + n) ObjectTooLong) else line_fault limit' (place + n) line) big
        ∙ never (nat_lt (max_object - (place + n - (begin + n))) (min (limit' - (place + n)) max_line))
        ∙ sound_moved limit limit' place n line is fits

    by : (a b : Bool) → nat_lt (max_object - (place - begin)) (min (limit - place) max_line) ≡ a
        → nat_lt (max_object - (place - begin)) (size line) ≡ b
        → (if a && b then Some (at begin ObjectTooLong) else line_fault limit place line) ≡ None
        → object_line_fault limit' (begin + n) (place + n) line ≡ None
    by true true ea eb is = absurd (cc is)
    by true false ea eb is = small eb is
    by false true ea eb is =
        let p =
        none_of (too_long limit place (size line))
        (or_else (unterminated_fault place line) (nul_fault place (nul_in line.text))) is in
        let s = short limit place (size line) p.0 in
        let over = ltb-true (max_object - (place - begin)) (size line) eb in
        let under = ltb-false (max_object - (place - begin)) (min (limit - place) max_line) ea in
        absurd (omega (arith, s, over, under))
    by false false ea eb is = small eb is
