pub mod WorkedMoments
