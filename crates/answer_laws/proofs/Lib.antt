pub mod Sound
pub mod Phases
pub mod RankOrder
pub mod Answers
pub mod OneMoreHeld
pub mod HeldNewest
pub mod Members
pub mod ListedLaw
pub mod EmptyFlags
mod Order
mod Alike
mod Joined
pub mod OneAnswer
pub mod Agreement
mod Standing
pub mod VotesRead
pub mod TextsAgain
pub mod MadeBasis
pub mod MadeVotes
mod ReportStanding
pub mod FewRelays
