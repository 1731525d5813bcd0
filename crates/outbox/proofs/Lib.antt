mod OrderLemmas
mod ContactLemmas
mod PaceLemmas
mod TimeLemmas
mod OutboxLemmas
