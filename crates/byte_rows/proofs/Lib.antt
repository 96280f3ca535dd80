pub mod WritesAgain
