pub mod ResolverRules
