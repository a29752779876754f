-- What clap's values tell of a mirror.
use Rattle.std.{proofs.Common.{◌≡◌, ℕ, List, [], ◌∷◌, Option, Some, None, refl, ap, ◌∙◌}, specs.Prelude.codes}
use Rattle.clap.specs.{Words.{Kinds, Row, first_of, first_value, rows_of}, declared.parser.matches.Found.Found}
use Rattle.daemon_words.proofs.Named.{option_is}
use Rattle.mirror_daemon.specs.Words.{words_in, words_of, words_read, words_with}

-- what the options give, where each stands there or not
tells : (f : Found) (authorities peers listen : Option (List ℕ)) → authorities ≡ first_value f (codes "authorities")
    → peers ≡ first_value f (codes "peers") → listen ≡ first_value f (codes "listen")
    → words_in (rows_of f) ≡ words_with authorities peers listen
tells f authorities peers listen first second third =
    ap (λ (a : Option (List ℕ)). words_with a (first_of (codes "peers") (rows_of f)) (first_of (codes "listen") (rows_of f)))
    (option_is f (codes "authorities") authorities first)
    ∙ ap (λ (p : Option (List ℕ)). words_with authorities p (first_of (codes "listen") (rows_of f)))
    (option_is f (codes "peers") peers second)
    ∙ ap (λ (l : Option (List ℕ)). words_with authorities peers l) (option_is f (codes "listen") listen third)

-- all three stand there
pub all_told : (f : Found) (authorities peers listen : List ℕ) → Some authorities ≡ first_value f (codes "authorities")
    → Some peers ≡ first_value f (codes "peers") → Some listen ≡ first_value f (codes "listen")
    → words_in (rows_of f) ≡ words_of authorities peers listen
all_told f authorities peers listen first second third =
    tells f (Some authorities) (Some peers) (Some listen) first second third

-- the first does not
pub no_authorities : (f : Found) → None ≡ first_value f (codes "authorities") → words_in (rows_of f) ≡ None
no_authorities f first = tells f None (first_value f (codes "peers")) (first_value f (codes "listen")) first refl refl

-- the second does not
pub no_peers : (f : Found) (authorities : List ℕ) → Some authorities ≡ first_value f (codes "authorities")
    → None ≡ first_value f (codes "peers") → words_in (rows_of f) ≡ None
no_peers f authorities first second =
    tells f (Some authorities) None (first_value f (codes "listen")) first second refl

-- the third does not
pub no_listen : (f : Found) (authorities peers : List ℕ) → Some authorities ≡ first_value f (codes "authorities")
    → Some peers ≡ first_value f (codes "peers") → None ≡ first_value f (codes "listen") → words_in (rows_of f) ≡ None
no_listen f authorities peers first second third =
    tells f (Some authorities) (Some peers) None first second third

-- where something is wrong with the words they tell nothing
pub nothing_read : (kinds : Kinds) (values : List Row) → (kinds ≡ [] → ⊥) → words_read kinds values ≡ None
nothing_read [] values some = absurd (some refl)
nothing_read (kind ∷ kinds) values some = refl

-- where nothing is wrong they tell what the values tell
pub values_read : (kinds : Kinds) (values rows : List Row) → kinds ≡ [] → rows ≡ values
    → words_read kinds values ≡ words_in rows
values_read kinds values rows none are = rw (none, are) refl
