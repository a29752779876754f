-- Documents of one kind, one behind the other to an input's end.
use Rattle.std.specs.Prelude.{◌≡◌, ℕ, ◌+◌, List, [], ◌∷◌, drop, slice_range, Some, None, Result, Ok, Err}
use Rattle.frame_terms.specs.declared.fault.{FrameFault.FrameFault, ReadRefusal.ReadRefusal}
use Rattle.frame_terms.specs.declared.fault.ReadRefusal.TheVariants as read
use Rattle.blank_lines.specs.{Behind.fault_behind, Blanks.after_blanks}

module _ {X : Type 0} (document_of : List ℕ → Result (X × ℕ) ReadRefusal) where
  -- A document stands in the input from a place on, with its text from its first item on, and ends before the next place.
  pub record StandsAt (bytes : List ℕ) (place : ℕ) (document : X × List ℕ) (next : ℕ) : Type 0 where
    pub begin : ℕ
    pub used : ℕ
    pub begins : after_blanks place bytes ≡ Some begin
    pub reads : document_of (drop place bytes) ≡ Ok (document.0, used)
    pub next_is : next ≡ place + used
    pub text_is : document.1 ≡ slice_range bytes begin next

  -- these stand there, one behind the other, and end before the last place
  abbrev pub Stand : List ℕ → ℕ → List (X × List ℕ) → ℕ → Type 0
  Stand bytes place [] last = last ≡ place
  Stand bytes place (document ∷ documents) last =
      (next : ℕ) × StandsAt bytes place document next × Stand bytes next documents last

  -- The input is these, and nothing but blank lines behind them.
  pub record AreAll (bytes : List ℕ) (documents : List (X × List ℕ)) : Type 0 where
    pub last : ℕ
    pub stand : Stand bytes 0 documents last
    pub ended : after_blanks last bytes ≡ None

  -- Behind some of these the first fault stands.
  pub record FailsWith (bytes : List ℕ) (fault : FrameFault) : Type 0 where
    pub documents : List (X × List ℕ)
    pub last : ℕ
    pub found : FrameFault
    pub stand : Stand bytes 0 documents last
    pub fails : document_of (drop last bytes) ≡ Err (read.Frame found)
    pub fault_is : fault ≡ fault_behind last found
