pub mod Playback
pub mod Laws
