mod TableLemmas
mod StopLemmas
mod AnsweredLemmas
mod Determined
mod OneWay
mod OneRun
