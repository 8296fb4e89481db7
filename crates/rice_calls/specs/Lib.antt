-- What contracts of the calls for C cite: their settings, statuses, reports and memory, and what each call does.
pub mod AsAsked
pub mod AskedSetting
pub mod Calls
pub mod Pulling
pub mod Feeding
pub mod Laws
pub mod Reports
pub mod SufficientRoom
pub mod Statuses
