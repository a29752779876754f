-- The facts of the kinds of a document's rows, as one record.
use Rattle.std.proofs.Common.{◌≡◌, ℕ, false, List, Option, Some, None, Result, Ok, sym, ap, subst}
use Rattle.std.specs.Prelude.{IfSome}
use Rattle.item_terms.specs.Items.{Item}
use Rattle.dirdoc_grammar.specs.Writing.{IsLineRest, IsWritableObject}
use Rattle.frame_terms.specs.{declared.fault.FrameFault.FrameFault, Tables.Tables}
use Rattle.row_laws.proofs.{ItemArguments.IsSound, Spoken.{Rest, Words, new_words, words_in}, Ties.{Gives, Tied}}

-- What a document's items mean, without places:
-- said     what a value with places says in the input's bytes
-- means    what an item of a kind says by its words alone
-- write    how a value is written
-- as_read  what is read of a value that was written
-- none     any value with places
pub record Meaning (K V F : Type 0) : Type 0 where
  pub said : List ℕ → V → F
  pub means : K → Words → Option F
  pub write : K → F → Rest
  pub as_read : K → F → F
  pub none : V

-- The facts of each kind of row:
-- tied    what is read of an item that stands in the input says there what its words mean, wherever it stands
-- again   what may be written means what it is read as
-- fits    what words mean is in range
-- known   no item is passed over
-- steady  what is remembered changes nothing of what is read
pub record RowLaws {S K V X F : Type 0} (tables : Tables S K V X) (m : Meaning K V F)
    (MayWrite IsRead : K → F → Type 0)
    : Type 0 where
  pub tied : (across : X) (kind : K) (bytes : List ℕ) (item : Item) → IsSound bytes item
      → Tied (m.said bytes) (tables.value_of across kind item) (m.means kind (words_in item))
  pub again : (kind : K) (f : F) → MayWrite kind f → IfSome (m.write kind f).object IsWritableObject
      → m.means kind (new_words (m.write kind f)) ≡ Some (m.as_read kind f)
  pub fits : (kind : K) (words : Words) → IsLineRest words.arguments → Gives (IsRead kind) (m.means kind words)
  pub known : (kind : K) (item : Item) → tables.ignores kind item ≡ false
  pub steady : (a b : X) (kind : K) (item : Item) → tables.value_of a kind item ≡ tables.value_of b kind item

-- What is read of any document asks for less: where an item is read, be it refused or not by what is remembered, it
-- says what its
-- words mean, and that is in range.
pub record ReadLaws {S K V X F : Type 0} (tables : Tables S K V X) (m : Meaning K V F)
    (IsRead : K → F → Type 0) : Type 0 where
  pub says : (across : X) (kind : K) (bytes : List ℕ) (item : Item) (v : V) → IsSound bytes item
      → tables.value_of across kind item ≡ Ok v → m.means kind (words_in item) ≡ Some (m.said bytes v)
  pub fits : (kind : K) (words : Words) → IsLineRest words.arguments → Gives (IsRead kind) (m.means kind words)

module _ {V F : Type 0} where
  tied_ok : (said : V → F) (v : V) (o : Option F) → Tied {E = FrameFault} said (Ok v) o → o ≡ Some (said v)
  tied_ok said v (Some f) is = ap (λ (g : F). Some g) (sym is)
  tied_ok said v None is = absurd is

pub reads : {S K V X F : Type 0} {tables : Tables S K V X} {m : Meaning K V F} {MayWrite IsRead : K → F → Type 0}
    → RowLaws tables m MayWrite IsRead → ReadLaws tables m IsRead
reads {S} {K} {V} {X} {F} {tables} {m} laws = record {
  says = λ across kind bytes item v sound is.
      tied_ok (m.said bytes) v (m.means kind (words_in item))
      (subst (λ (r : Result V FrameFault). Tied (m.said bytes) r (m.means kind (words_in item))) is
      (laws.tied across kind bytes item sound));
  fits = laws.fits;
}
