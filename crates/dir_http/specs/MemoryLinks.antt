-- What a link in memory does at each exchange.
use Rattle.std.specs.Prelude.{◌≡◌, ℕ, ◌-◌, ◌++◌, ◌∷◌, min, List, [], length, slice_index_or}
use Rattle.dir_bytes.specs.Causes.{next_count}
use Rattle.dir_http.specs.declared.{link.LinkAnswer.LinkAnswer, memory_link.{Exchange.Exchange, MemoryLink.MemoryLink}}
use Rattle.dir_http.specs.declared.link.LinkAnswer.TheVariants as link

-- what is sent after so many exchanges: the replies in order, and the last one again and again
abbrev pub reply_of : List (List ℕ) → ℕ → List ℕ
reply_of replies calls = slice_index_or replies (min calls (length replies - 1)) []

-- a link of which nothing was asked
pub record IsFreshLink (texts : List (List ℕ)) (numbers : List ℕ) (made : MemoryLink) : Type 0 where
  pub replies : made.replies.items ≡ texts
  pub failing : made.failing.items ≡ numbers
  pub asked : made.asked.items ≡ []
  pub calls : made.calls ≡ 0
  pub faults : made.faults ≡ 0

-- an exchange: whom it asks, with which request, and for how many bytes at most
abbrev pub exchange_of : List ℕ → List ℕ → ℕ → Exchange
exchange_of peer request limit = record { peer = peer; request = request; limit = limit }

-- what is asked stands behind what was asked before, and the replies stay
pub record NotesAsked (before : MemoryLink) (peer request : List ℕ) (limit : ℕ) (after : MemoryLink) : Type 0 where
  pub asked : after.asked.items ≡ before.asked.items ++ exchange_of peer request limit ∷ []
  pub calls : after.calls ≡ next_count before.calls
  pub replies : after.replies ≡ before.replies
  pub failing : after.failing ≡ before.failing

-- the same for each answer; nothing is said where there was no memory
abbrev pub NotesExchange : MemoryLink → List ℕ → List ℕ → ℕ → LinkAnswer → MemoryLink → Type 0
NotesExchange before peer request limit (link.Got bytes) after = NotesAsked before peer request limit after
NotesExchange before peer request limit link.TooLong after = NotesAsked before peer request limit after
NotesExchange before peer request limit link.Fault after = NotesAsked before peer request limit after
NotesExchange before peer request limit link.Memory after = Unit {0}
