pub mod NearestLaws
pub mod FieldLaws
pub mod ReachLaws
pub mod SignLaws
pub mod RoundsProof
pub mod TurnsProof
pub mod WorkedProof
