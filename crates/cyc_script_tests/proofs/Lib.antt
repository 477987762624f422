mod EveryWord
mod WorkedScripts
