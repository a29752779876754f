pub mod KeptCerts
