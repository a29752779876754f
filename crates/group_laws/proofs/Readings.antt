-- Kinds whose items say what is read of their lines, in any kind of document: an item that is read suits its row.
use Rattle.std.proofs.Common.{◌≡◌, ℕ, ◌≤◌, Bool, false, length, Option, Some, None, Result, Ok, Err, refl, ap, ◌∙◌}
use Rattle.std.{proofs.Common.arith, specs.Prelude.{IfSome, nat_lt, if◌then◌else◌}}
use Rattle.item_terms.specs.Items.{Item}
use Rattle.dirdoc_grammar.specs.Writing.{written}
use Rattle.frame_terms.specs.{Rows.{limit_number, row}, Tables.Tables, declared.fault.FrameFault.FrameFault}
use Rattle.frame_terms.specs.declared.{fault.FrameReason.TheVariants.TooMany, keyword.Keyword.Keyword, row.Count.Count}
use Rattle.frame_terms.specs.declared.row.Limit.{Limit}
use Rattle.frame_values.specs.{Arguments.{arguments_of, next}, Faults.{at_place, too_many, unless_fault}}
use Rattle.frame_values.specs.declared.{found.Span.Span, values.Value.Value}
use Rattle.frame_values.specs.declared.values.Value.TheVariants as value
use Rattle.frame_laws.proofs.Entries.{AlwaysSuits, Entry, item_of}

-- the fault of an item that has more arguments than a limit, where there is one
abbrev pub over : Option Limit → Item → Result (Unit {0}) FrameFault
over None item = Ok tt
over (Some limit) item = too_many limit item

module _ {W : Type 0} where
  -- what is said of what was read
  abbrev pub said_of : {A : Type 0} → (A → Value W) → Result A ℕ → Result (Value W) ℕ
  said_of of read = next read (λ found. Ok (of found))

  -- where a text stands
  abbrev pub text_at : Span → Value W
  text_at span = value.Text span

-- Items of this kind are not passed over, pass the limit where there is one, and say this of what is read of them.
pub record Reads {S K W X A : Type 0} (tables : Tables S K (Value W) X) (kind : K) (most : Option Limit)
    (read : X → Item → Result A ℕ) (of : A → Value W) : Type 0 where
  pub known : (item : Item) → tables.ignores kind item ≡ false
  pub values : (across : X) (item : Item)
      → tables.value_of across kind item ≡ unless_fault (over most item) (at_place (said_of of (read across item)))

module _ {S K W X A : Type 0} {tables : Tables S K (Value W) X} {kind : K} {most : Option Limit}
    {read : X → Item → Result A ℕ} {of : A → Value W} where
  -- an item that passes the limit and is read as its value suits its row
  pub suits_reading : Reads tables kind most read of → (keyword : Keyword) (count : Count) (entry : Entry (Value W))
      (found : ℕ → A) → keyword ≡ entry.keyword → ((p : ℕ) → of (found p) ≡ entry.value p)
      → ((p : ℕ) → over most (written p (item_of entry)) ≡ Ok tt)
      → ((across : X) (p : ℕ) → read across (written p (item_of entry)) ≡ Ok (found p))
      → AlwaysSuits tables (row keyword count kind) entry
  suits_reading reads keyword count entry found named same_value within is = λ across p.
      let item = written p (item_of entry) in
      record {
        keyword = named;
        known = reads.known item;
        value =
            reads.values across item
            ∙ ap (λ (r : Result (Unit {0}) FrameFault). unless_fault r (at_place (said_of of (read across item))))
            (within p)
            ∙ ap (λ (r : Result A ℕ). at_place (said_of of r)) (is across p)
            ∙ ap (λ (v : Value W). at_place (Ok v)) (same_value p);
      }

-- ---- limits

-- as many arguments as a limit do not pass it
pub few : (limit : Limit) (item : Item) (n : ℕ) → length (arguments_of item) ≡ n → n ≤ limit_number limit
    → too_many limit item ≡ Ok tt
few limit item n same_length within =
    let no : nat_lt (limit_number limit) (length (arguments_of item)) ≡ false =
    below (limit_number limit) n (length (arguments_of item)) same_length within in
    ap (λ (t : Bool). if t then too_many_ else fine) no
  where
    below : (most n m : ℕ) → m ≡ n → n ≤ most → nat_lt most m ≡ false
    below most n m same_length within = grind arith

    fine : Result (Unit {0}) FrameFault
    fine = Ok tt

    too_many_ : Result (Unit {0}) FrameFault
    too_many_ = Err (record { place = item.place; reason = TooMany limit })

-- no more than a limit, where there is one
abbrev pub AreFew : Option Limit → ℕ → Type 0
AreFew most n = IfSome most (λ (limit : Limit). n ≤ limit_number limit)

pub few_enough : (most : Option Limit) (item : Item) (n : ℕ) → length (arguments_of item) ≡ n → AreFew most n
    → over most item ≡ Ok tt
few_enough None item n same_length within = refl
few_enough (Some limit) item n same_length within = few limit item n same_length within
