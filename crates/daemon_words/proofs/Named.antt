-- The command that clap names, and its refusals.
use Rattle.std.{proofs.Common.{◌≡◌, ℕ, List, [], ◌∷◌, Option, Some, None, refl, sym, ◌∙◌, inl, inr}, specs.Prelude.Box}
use Rattle.std.specs.{Prelude.option_map, Box.box_value}
use Rattle.clap.specs.{Kinds.{HasKind, Kinds}, Words.{Row, first_of, first_value, kind_of, rows_of, subcommand_rows}}
use Rattle.clap.specs.declared.parser.matches.{Found.Found, SubCommand.SubCommand, ArgMatches.TheViews.out-SubCommand}
use Rattle.clap.{specs.declared.error.Error.Error, proofs.WalkLemmas.first_value-rows}
use Rattle.clap.specs.declared.error.kind.ErrorKind.TheVariants as error_kind
use Rattle.daemon_words.specs.Words.{command_named, command_read}

-- an error other than want of memory comes only where something is wrong with the words
pub refused : (kinds : Kinds) (e : Error) → HasKind kinds e → (kind_of e ≡ error_kind.OutOfMemory → ⊥) → kinds ≡ [] → ⊥
refused [] e has other_kind none = elim has [ inl memory ↦ other_kind memory | inr other ↦ other ]
refused (k ∷ ks) e has other_kind none = absurd cc

module _ {Z : Type 0} where
  -- a command is named by its name and its options
  pub named_is : (sub : Option (Box SubCommand Z)) (name : List ℕ) (rows : List Row) → Some name ≡ option_map (λ b. (out-SubCommand (box_value b)).name.now) sub
      → Some rows ≡ option_map (λ p. p.1) (subcommand_rows sub) → subcommand_rows sub ≡ Some (name, rows)
  named_is None name rows is_name is_rows = absurd cc
  named_is (Some b) name rows is_name is_rows = cc

  pub none_is : (sub : Option (Box SubCommand Z)) → None ≡ option_map (λ b. (out-SubCommand (box_value b)).name.now) sub → subcommand_rows sub ≡ None
  none_is None is = refl
  none_is (Some b) is = absurd cc

-- where something is wrong with the words they give no command
pub nothing_read : (kinds : Kinds) (named : Option (List ℕ × List Row)) → (kinds ≡ [] → ⊥) → command_read kinds named ≡ None
nothing_read [] named some = absurd (some refl)
nothing_read (k ∷ ks) named some = refl

-- where nothing is wrong they give the command that was named
pub named_read : (kinds : Kinds) (named : Option (List ℕ × List Row)) (name : List ℕ) (rows : List Row) → kinds ≡ [] → named ≡ Some (name, rows) → command_read kinds named ≡ command_named name rows
named_read kinds named name rows none is = rw (none, is) refl

pub none_named : (kinds : Kinds) (named : Option (List ℕ × List Row)) → kinds ≡ [] → named ≡ None → command_read kinds named ≡ None
none_named kinds named none is = rw (none, is) refl

-- the value that clap finds is the first of its row
pub option_is : (f : Found) (id : List ℕ) (value : Option (List ℕ)) → value ≡ first_value f id → first_of id (rows_of f) ≡ value
option_is f id value is = sym (is ∙ first_value-rows f id)
