-- What holds of all keywords.
use Rattle.std.specs.Prelude.{◌≡◌, Some}
use Rattle.frame_terms.specs.{declared.keyword.Keyword.Keyword, Keywords.{text_of, word_of}}

-- the text of each keyword is read as that keyword
abbrev pub KeywordsAreKnown : Type 0
KeywordsAreKnown = (keyword : Keyword) → word_of (text_of keyword) ≡ Some keyword
