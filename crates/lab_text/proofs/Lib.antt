pub mod Giving
pub mod LinesOf
pub mod SettingKeys
pub mod WordsOf
