pub mod FitCalls
