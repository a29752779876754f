-- What is found of the next item, behind blank lines.
use Rattle.std.proofs.Common.{◌≡◌, ℕ, ◌<◌, ◌≤◌, ◌⊎◌, List, ◌++◌, length, Option, Some, None, Ok, Err, sym, ap, ◌∙◌, inl}
use Rattle.std.{proofs.Common.{inr, arith}, specs.Prelude.IfSome}
use Rattle.item_terms.specs.declared.fault.{DocFault.DocFault, DocReason.TheVariants.Unterminated}
use Rattle.item_terms.specs.Items as model
use Rattle.dirdoc_grammar.specs.declared.{item.Item.Item, front.{Stop.Stop, Phase.TheVariants.Between}}
use Rattle.dirdoc_grammar.specs.{declared.front.Found.TheVariants.{Whole, Fault, Open}, Reading.{from_place, Reads}}
use Rattle.dirdoc_grammar.specs.{Reading.{IsCut, Ends, Finds, FindsObject}, Seen.seen_item}

-- nothing but blank lines stands up to a line
pub record BlankTo (limit place line : ℕ) (bytes : List ℕ) : Type 0 where
  pub order : place ≤ line
  pub within : line ≤ length bytes
  pub same : (more : List ℕ) → from_place limit place model.nothing (bytes ++ more) ≡ from_place limit line model.nothing (bytes ++ more)

-- the reading stops before or within a line between items
pub stops_between : (limit place line : ℕ) (bytes : List ℕ) → BlankTo limit place line bytes → (line ≡ length bytes) ⊎ IsCut limit line model.nothing bytes
    → Finds limit place bytes (Open (record { item = line; line = line; phase = Between }) None)
stops_between limit place line bytes blank ends = (
  blank.same,
  blank.order,
  omega arith,
  record {
    stands = record { open_ = model.nothing; kind = tt; behind = tt; same = blank.same; order = blank.order; within = blank.within };
    ends = elim ends [
      | inl there ↦ inl (there, tt)
      | inr cut ↦ inr cut
    ];
  },
  tt,
)

last_behind : (limit place : ℕ) (bytes : List ℕ) (line : ℕ) (open_ : model.Open) (last : Option Item) → place < line → Ends limit bytes line open_ last → IfSome last (λ item. place < item.after)
last_behind limit place bytes line open_ None lt h = tt
last_behind limit place bytes line open_ (Some item) lt h = omega (arith, lt, h.2)

pub found_open : (limit place line after : ℕ) (bytes : List ℕ) (item : Item) (stop : Stop) (last : Option Item) → BlankTo limit place line bytes → Reads limit line bytes (Ok (Some item, after)) → FindsObject limit bytes item (Open stop last)
    → Finds limit place bytes (Open (record stop { item = line }) last)
found_open limit place line after bytes item stop last blank read found =
    let s = found.stands in (
      blank.same,
      blank.order,
      omega (arith, read.1, read.3, s.order),
      record {
        stands = record {
          open_ = s.open_;
          kind = s.kind;
          behind = s.behind;
          same = λ more. blank.same more ∙ read.0 more ∙ ap (λ (n : ℕ). from_place limit n (model.keyword_line (seen_item item)) (bytes ++ more)) (sym read.3) ∙ s.same more;
          order = omega (arith, blank.order, read.1, read.3, s.order);
          within = s.within;
        };
        ends = found.ends;
      },
      last_behind limit place bytes stop.line s.open_ last (omega (arith, blank.order, read.1, read.3, s.order)) found.ends,
    )

-- a blank line more
pub blank_line : (limit place line after : ℕ) (bytes : List ℕ) → BlankTo limit place line bytes → Reads limit line bytes (Ok (None, after)) → BlankTo limit place after bytes
blank_line limit place line after bytes blank read =
    record { order = omega (arith, blank.order, read.1); within = read.2; same = λ more. blank.same more ∙ read.0 more }
