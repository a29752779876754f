-- The arguments of a list of flags, one after the other.
use Rattle.std.proofs.Common.{◌≡◌, ℕ, Bool, true, false, List, [], ◌∷◌, ◌++◌, Some, None, refl, sym, ap, ap₂, ◌∙◌}
use Rattle.std.{proofs.lemmas.List.Folds.list_any-append, specs.Prelude.{◌&&◌, ◌||◌, not, if◌then◌else◌}}
use Rattle.std.specs.Str.{bytes_eq}
use Rattle.dir_values.specs.{Arguments.Argument, Digests.bytes_below, FlagSets.{is_name, is_among, has_flag, with_flag}}
use Rattle.dir_values.{specs.FlagSets.wrong_flag, proofs.{Flags.has_flag-with_flag, Orders.{below-trans, apart}}}

-- some arguments were walked, in which nothing is wrong, and these are left
pub record Walks (whole left : List Argument) : Type 0 where
  pub before : List Argument
  pub same : wrong_flag before left ≡ wrong_flag [] whole

-- what a text that comes behind the last flag is not among
pub record Ascends (whole left : List Argument) (last : List ℕ) : Type 0 where
  pub walked : Walks whole left
  pub new : (text : List ℕ) → bytes_below last text ≡ true → is_among text walked.before ≡ false

-- the flags that were walked are those of a set
pub record Listed (whole left : List Argument) (set : List (List ℕ)) : Type 0 where
  pub walked : Walks whole left
  pub known : (text : List ℕ) → has_flag set text ≡ is_among text walked.before

-- at first nothing was walked
pub ascends_first : (whole : List Argument) → Ascends whole whole []
ascends_first whole = record { walked = record { before = []; same = refl }; new = λ text below. refl }

pub listed_first : (whole : List Argument) → Listed whole whole []
listed_first whole = record { walked = record { before = []; same = refl }; known = λ text. refl }

wrong_by : (named among : Bool) (before rest : List Argument) (one : Argument) → is_name one.text ≡ named → is_among one.text before ≡ among
    → wrong_flag before (one ∷ rest) ≡ (if named && not among then wrong_flag (before ++ one ∷ []) rest else Some one.place)
unfolding wrong_flag
wrong_by named among before rest one is_named is_there = rw (is_named, is_there) refl

-- a text that is no name is wrong
pub wrong_name : (whole rest : List Argument) (one : Argument) → Walks whole (one ∷ rest) → is_name one.text ≡ false → Some one.place ≡ wrong_flag [] whole
wrong_name whole rest one walked no_name =
    sym (wrong_by false (is_among one.text walked.before) walked.before rest one no_name refl) ∙ walked.same

-- a flag that stands before is wrong
pub wrong_twice : (whole rest : List Argument) (one : Argument) (set : List (List ℕ)) → Listed whole (one ∷ rest) set → is_name one.text ≡ true
    → has_flag set one.text ≡ true → Some one.place ≡ wrong_flag [] whole
wrong_twice whole rest one set listed named there =
    let before = listed.walked.before in
    sym (wrong_by true true before rest one named (sym (listed.known one.text) ∙ there)) ∙ listed.walked.same

-- where none is left nothing is wrong
pub none_wrong : (whole : List Argument) → Walks whole [] → None ≡ wrong_flag [] whole
unfolding wrong_flag
none_wrong whole walked = walked.same

-- a name that is new is walked
walks_on : (whole rest : List Argument) (one : Argument) (walked : Walks whole (one ∷ rest)) → is_name one.text ≡ true → is_among one.text walked.before ≡ false
    → wrong_flag (walked.before ++ one ∷ []) rest ≡ wrong_flag [] whole
walks_on whole rest one walked named new = sym (wrong_by true false walked.before rest one named new) ∙ walked.same

among_more : (before : List Argument) (one : Argument) (text : List ℕ) → is_among text (before ++ one ∷ []) ≡ (is_among text before || bytes_eq one.text text)
among_more before one text =
    list_any-append (λ (argument : Argument). bytes_eq argument.text text) before (one ∷ [])
    ∙ ap (λ (b : Bool). is_among text before || b) (or_false (bytes_eq one.text text))
  where
    or_false : (b : Bool) → (b || false) ≡ b
    or_false true = refl
    or_false false = refl

-- a flag that comes behind the last one
pub ascends_next : (whole rest : List Argument) (one : Argument) (last : List ℕ) → Ascends whole (one ∷ rest) last → is_name one.text ≡ true
    → bytes_below last one.text ≡ true → Ascends whole rest one.text
ascends_next whole rest one last up named behind = record {
  walked = record {
    before = up.walked.before ++ one ∷ [];
    same = walks_on whole rest one up.walked named (up.new one.text behind);
  };
  new = λ text below. among_more up.walked.before one text
      ∙ ap₂ (λ (a b : Bool). a || b) (up.new text (below-trans last one.text text behind below)) (apart one.text text below);
}

-- a flag that is not in the set yet
pub listed_next : (whole rest : List Argument) (one : Argument) (set : List (List ℕ)) → Listed whole (one ∷ rest) set → is_name one.text ≡ true
    → has_flag set one.text ≡ false → Listed whole rest (with_flag set one.text)
listed_next whole rest one set listed named new = record {
  walked = record {
    before = listed.walked.before ++ one ∷ [];
    same = walks_on whole rest one listed.walked named (sym (listed.known one.text) ∙ new);
  };
  known = λ text. has_flag-with_flag set one.text text
      ∙ ap (λ (b : Bool). b || bytes_eq one.text text) (listed.known text)
      ∙ sym (among_more listed.walked.before one text);
}
