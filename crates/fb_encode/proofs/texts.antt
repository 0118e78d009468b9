pub mod FirstFaultIsRefused
