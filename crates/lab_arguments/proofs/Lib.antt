mod PieceLemmas
mod RequiredLemmas
