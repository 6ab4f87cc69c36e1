pub mod SetChecks
