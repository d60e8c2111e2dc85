mod Draws
mod FateLaws
mod Giving
mod MadeMessages
mod NodeKeys
mod Waves
