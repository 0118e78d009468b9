pub mod SlotsAreNoted
