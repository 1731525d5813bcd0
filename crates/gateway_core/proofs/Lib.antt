mod GateLemmas
mod DidLemmas
mod SendLemmas
mod LawLemmas
mod WantLemmas
