-- What a line's words are to the line, and what holds of the events that lines say.

use Rattle.std.specs.Prelude.{◌≡◌, ◌≢◌, ℕ, ◌≤◌, false, All, List, ◌∷◌, Ok}
use Rattle.endpoint.specs.declared.name.Endpoint.{Endpoint}
use Rattle.endpoint.specs.declared.name.Endpoint.TheVariants.{Null}
use Rattle.endpoint.specs.Endpoints.{IsEndpoint}
use Rattle.replay_script.specs.declared.event.Event.TheVariants as events
use Rattle.replay_script.specs.Events.{event_of}
use Rattle.replay_script.specs.Words.{is_space, words_of, spaced}

-- a line is its words, separated by single spaces
abbrev pub LinesAreSpacedWords : Type 0
LinesAreSpacedWords = (line : List ℕ) → spaced (words_of line) ≡ line

-- no octet of the word is a space
abbrev pub HasNoSpace : List ℕ → Type 0
HasNoSpace word = All (λ octet. is_space octet ≡ false) word

-- words without a space are the words of the line that has them, separated by single spaces
abbrev pub SpacedWordsAreRead : Type 0
SpacedWordsAreRead =
    (word : List ℕ) (words : List (List ℕ)) → All HasNoSpace (word ∷ words)
    → words_of (spaced (word ∷ words)) ≡ word ∷ words

-- a gate has a name, which is legal, and the numbers of a path are in their ranges
pub record IsSoundPath (gate : Endpoint) (segment timeout limit cut cap : ℕ) : Type 0 where
  pub named : gate ≢ Null
  pub legal : IsEndpoint gate
  pub segments : (512 ≤ segment) × (segment ≤ 8192)
  pub timeouts : (1 ≤ timeout) × (timeout ≤ 3600000)
  pub limits : (1 ≤ limit) × (limit ≤ 100)
  pub cuts : (1 ≤ cut) × (cut ≤ 4000000)
  pub caps : (timeout ≤ cap) × (cap ≤ 3600000)

-- a line that sets up a path says such
abbrev pub PathsAreSound : Type 0
PathsAreSound =
    (line : List ℕ) (gate : Endpoint) (segment timeout limit cut start cap : ℕ)
    → event_of line ≡ Ok (events.Path gate segment timeout limit cut start cap)
    → IsSoundPath gate segment timeout limit cut cap
