-- A text is cut where its lines are.
use Rattle.std.proofs.Common.{◌≡◌, ℕ, true, false, List, [], ◌∷◌, ◌++◌, length, take, drop, sym, ap, subst, ◌∙◌}
use Rattle.std.proofs.{Common.append_assoc, lemmas.{List.take-append-drop, Bool.{and_parts, false≢true}}}
use Rattle.std.specs.Prelude.{Bool, ◌==◌, if◌then◌else◌}
use Rattle.item_terms.specs.{Lines.{Line, lines, onto}, Words.{first_is, is_keyword_line, is_letter_or_digit}}
use Rattle.grammar_laws.{specs.Moved.sizes, proofs.LinesTogether.{AllEnded, lines_both, sizes_all}}
use Rattle.grammar_laws.proofs.OwnLines.{lines_cut}

ended_front : (front back : List Line) → AllEnded (front ++ back) → AllEnded front
ended_front [] back all = tt
ended_front (line ∷ front) back all = (all.0, ended_front front back all.1)

ended_back : (front back : List Line) → AllEnded (front ++ back) → AllEnded back
ended_back [] back all = all
ended_back (line ∷ front) back all = ended_back front back all.1

same_back : (front a b : List Line) → front ++ a ≡ front ++ b → a ≡ b
same_back [] a b is = is
same_back (line ∷ front) a b is = same_back front a b (ap lines_behind is)
  where
    lines_behind : List Line → List Line
    lines_behind [] = []
    lines_behind (l ∷ ls) = ls

-- The text is three texts: of the lines before, of these, and of those behind.
pub record IsCutText (text : List ℕ) (first middle : List Line) : Type 0 where
  pub front : List ℕ
  pub own : List ℕ
  pub rest : List ℕ
  pub parts : text ≡ front ++ (own ++ rest)
  pub front_size : length front ≡ sizes first
  pub own_lines : lines own ≡ middle
  pub own_size : length own ≡ sizes middle

pub cut_text : (text : List ℕ) (first middle more : List Line) → AllEnded (first ++ middle)
    → lines text ≡ (first ++ middle) ++ more → IsCutText text first middle
cut_text text first middle more ended is =
    let whole : lines text ≡ first ++ (middle ++ more) = is ∙ append_assoc first middle more in
    let front_lines : lines (take (sizes first) text) ≡ first =
    lines_cut text first (middle ++ more) (ended_front first middle ended) whole in
    let front = take (sizes first) text in
    let behind = drop (sizes first) text in
    let both : front ++ behind ≡ text = take-append-drop (sizes first) text in
    let all : lines front ++ lines behind ≡ first ++ (middle ++ more) =
    sym (lines_both front behind (subst AllEnded (sym front_lines) (ended_front first middle ended)))
    ∙ ap lines both ∙ whole in
    let behind_lines : lines behind ≡ middle ++ more =
    same_back first (lines behind) (middle ++ more)
    (ap (λ (l : List Line). l ++ lines behind) (sym front_lines) ∙ all) in
    let own_lines : lines (take (sizes middle) behind) ≡ middle =
    lines_cut behind middle more (ended_back first middle ended) behind_lines in
    record {
      front = front;
      own = take (sizes middle) behind;
      rest = drop (sizes middle) behind;
      parts = sym both ∙ ap (λ (l : List ℕ). front ++ l) (sym (take-append-drop (sizes middle) behind));
      front_size = sym (sizes_all front) ∙ ap sizes front_lines;
      own_lines = own_lines;
      own_size = sym (sizes_all (take (sizes middle) behind)) ∙ ap sizes own_lines;
    }

-- a text whose first line is one of a keyword begins with a letter or digit
pub begins_with_keyword : (text : List ℕ) (line : Line) (more : List Line) → lines text ≡ line ∷ more
    → is_keyword_line line.text ≡ true → first_is is_letter_or_digit text ≡ true
begins_with_keyword [] line more is keyword = absurd (cc (is))
begins_with_keyword (b ∷ text) line more is keyword = by (b == 10) (lines text) is
  where
    line_or : List Line → Line
    line_or [] = line
    line_or (l ∷ ls) = l

    never : record { text = []; ended = true } ≡ line → first_is is_letter_or_digit (b ∷ text) ≡ true
    never same = absurd (false≢true (ap (λ (l : Line). is_keyword_line l.text) same ∙ keyword))

    begins : (rest : List ℕ) → is_keyword_line (b ∷ rest) ≡ true → first_is is_letter_or_digit (b ∷ text) ≡ true
    begins rest is_ = (and_parts _ _ is_).0

    grown : (ls : List Line) → onto b ls ≡ line ∷ more → first_is is_letter_or_digit (b ∷ text) ≡ true
    grown [] same =
        begins [] (ap (λ (l : Line). is_keyword_line l.text) (ap line_or same) ∙ keyword)
    grown (l ∷ ls) same =
        begins l.text (ap (λ (l : Line). is_keyword_line l.text) (ap line_or same) ∙ keyword)

    by : (nl : Bool) (ls : List Line)
        → (if nl then record { text = []; ended = true } ∷ ls else onto b ls) ≡ line ∷ more
        → first_is is_letter_or_digit (b ∷ text) ≡ true
    by true ls same = never (ap line_or same)
    by false ls same = grown ls same
