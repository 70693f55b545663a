-- Plain lemmas, and those on parties.
pub mod PartyLemmas
pub mod Tests
pub mod Lists
pub mod Results
