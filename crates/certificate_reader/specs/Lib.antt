-- How the code reads a certificate.
pub mod Working
